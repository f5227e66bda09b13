use Rattle.submitted_laws.proofs.SubmittedLengths.{receipt_is_short}
use Rattle.submitted_laws.proofs.laws.its_receipt_is_read_again.Goals as goal

pub returns : goal.returns
returns c = λ s submitted is.
    c.short_is_read_again.ensures (receipt_is_short s c.args.message.now submitted is) (rw is.is tt)
