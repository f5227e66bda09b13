use Rattle.submitted_laws.proofs.SubmittedLengths.{pair_is_short}
use Rattle.submitted_laws.proofs.laws.their_pair_is_read_again.Goals as goal

pub returns : goal.returns
returns c = λ s submitted is.
    c.short_is_read_again.ensures (pair_is_short s c.args.message.now submitted is) (rw is.is tt)
