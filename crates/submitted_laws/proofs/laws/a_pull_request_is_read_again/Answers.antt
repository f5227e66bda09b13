use Rattle.submitted_laws.proofs.SubmittedLengths.{pull_is_short}
use Rattle.submitted_laws.proofs.laws.a_pull_request_is_read_again.Goals as goal

pub returns : goal.returns
returns c = λ is. c.short_is_read_again.ensures (pull_is_short c.args.message.now is) (rw is.is tt)
