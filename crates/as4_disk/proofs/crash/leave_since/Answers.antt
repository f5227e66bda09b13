use Rattle.as4_disk.proofs.CrashLemmas.{left_by_all-nil, left_more}
use Rattle.as4_disk.proofs.crash.leave_since.Goals as goal
use Rattle.std.proofs.Common.{sym}

pub loop-change-init : goal.loop-change-init
loop-change-init c = sym (left_by_all-nil c.args.pick c.args.part c.args.octets.now)

pub loop-change-preserved : goal.loop-change-preserved
loop-change-preserved c =
    left_more c.args.changes.now c.loop-change.change-index c.change-item.result c.loop-change-test.true c.change-item.is c.args.part c.args.octets.now c.loop-change.octets c.args.pick c.leave_one.new.octets c.loop-change.invariant c.in_ok-leave_one.ensures
