use Rattle.std.proofs.Common.{take}
use Rattle.as4_audit.proofs.ListLemmas.{bytes_more, bytes_of, read_more}
use Rattle.as4_audit.proofs.records.records_of.Goals as goal

pub loop-body-preserved : goal.loop-body-preserved
loop-body-preserved c =
    let i = c.loop-body.body-index in
    rw (bytes_more c.args.bodies.now i c.loop-body-test.true, c.in_ok-push.ensures.items)
    (read_more (bytes_of (take i c.args.bodies.now)) c.loop-body.records.items _ c.in_ok-record_of.field-0 c.loop-body.invariant c.in_ok-record_of.ensures)
