use Rattle.exchange_laws.proofs.StayLemmas.{keeps_all}
use Rattle.stranger_laws.proofs.laws.what_came_stays_from.Goals as goal

pub returns : goal.returns
returns c = keeps_all
