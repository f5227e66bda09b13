use Rattle.stranger_laws.proofs.TakenLemmas.{takes_in}
use Rattle.stranger_laws.proofs.laws.what_comes_is_taken.Goals as goal

pub returns : goal.returns
returns c = takes_in
