use Rattle.submitted_laws.proofs.AnswerLemmas.{answer_is_short, answer_is_paired}
use Rattle.submitted_laws.proofs.laws.its_answer_is_read_again.Goals as goal

pub returns : goal.returns
returns c = λ s submitted is.
    c.short_is_read_again.ensures (answer_is_short s c.args.message.now submitted is) (answer_is_paired s c.args.message.now is)
