use Rattle.submitted_laws.proofs.SubmittedLengths.{submission_is_short, submission_is_paired}
use Rattle.submitted_laws.proofs.laws.a_submission_is_read_again.Goals as goal

pub returns : goal.returns
returns c = λ s submitted is.
    c.short_is_read_again.ensures (rw is (submission_is_short s submitted)) (rw is (submission_is_paired s))
