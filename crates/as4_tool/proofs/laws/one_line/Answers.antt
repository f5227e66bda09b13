use Rattle.as4_tool.proofs.AnswerLemmas.{one_line_of}
use Rattle.as4_tool.proofs.laws.one_line.Goals as goal

pub returns : goal.returns
returns c = one_line_of
