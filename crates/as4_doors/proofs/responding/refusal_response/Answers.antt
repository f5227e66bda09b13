use Rattle.as4_doors.proofs.ResponseLemmas.{refused}
use Rattle.as4_doors.proofs.responding.refusal_response.Goals as goal

pub returns : goal.returns
returns c =
    refused c.args.kept c.args.refusal.now c.args.stamp c.args.nonce c.in_ok-signal.signal c.signal_response.result
    c.in_ok-signal.ensures c.signal_response.ensures
