use Rattle.as4_disk.proofs.MemoryLemmas.{bytes_by-nil}
use Rattle.as4_disk.proofs.CrashLemmas.{replayed_more}
use Rattle.as4_disk.proofs.crash.replay.Goals as goal
use Rattle.std.proofs.Common.{sym}

pub loop-change-init : goal.loop-change-init
loop-change-init c = sym (bytes_by-nil c.args.part c.args.octets.now)

pub loop-change-preserved : goal.loop-change-preserved
loop-change-preserved c =
    replayed_more c.args.changes.now c.loop-change.change-index c.change-item.result c.loop-change-test.true c.change-item.is c.args.part c.args.octets.now c.loop-change.octets c.replay_one.new.octets c.loop-change.invariant c.in_ok-replay_one.ensures
