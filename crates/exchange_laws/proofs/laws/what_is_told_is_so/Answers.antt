use Rattle.exchange_laws.proofs.ToldLemmas.{tells}
use Rattle.exchange_laws.proofs.laws.what_is_told_is_so.Goals as goal

pub returns : goal.returns
returns c = tells
