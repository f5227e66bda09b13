use Rattle.submissions.proofs.StepLemmas.{one_more_payload}
use Rattle.submissions.proofs.payloads.payloads_of.Goals as goal

pub loop-at-preserved : goal.loop-at-preserved
loop-at-preserved c =
    let ensures = c.in_ok-payload_of.ensures in
    rw c.in_ok-push.ensures.items
    (one_more_payload c.args.id.now c.args.loads.now c.loop-at.payloads.items c.loop-at.at c.index-loads-at.result c.in_ok-payload_of.field-0
    c.loop-at.invariant c.loop-at-test.true c.index-loads-at.is ensures.cid ensures.media ensures.content)
