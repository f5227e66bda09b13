use Rattle.as4_tool.proofs.AnswerLemmas.{one_answer_of}
use Rattle.as4_tool.proofs.laws.one_answer.Goals as goal

pub returns : goal.returns
returns c = one_answer_of
