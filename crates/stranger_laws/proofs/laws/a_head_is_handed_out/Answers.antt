use Rattle.stranger_laws.proofs.HeadLemmas.{answers_with_head}
use Rattle.stranger_laws.proofs.laws.a_head_is_handed_out.Goals as goal

pub returns : goal.returns
returns c = answers_with_head
