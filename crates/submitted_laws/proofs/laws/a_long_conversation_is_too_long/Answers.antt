use Rattle.submitted_laws.proofs.LongLemmas.{long_is_not_short}
use Rattle.submitted_laws.proofs.laws.a_long_conversation_is_too_long.Goals as goal

pub returns : goal.returns
returns c = long_is_not_short
