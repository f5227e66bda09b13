use Rattle.as4_tool.proofs.AnswerLemmas.{no_answer_to}
use Rattle.as4_tool.proofs.laws.a_signal_has_no_answer.Goals as goal

pub returns : goal.returns
returns c = no_answer_to
