use Rattle.office.proofs.HistoryLemmas.{stays}
use Rattle.office.proofs.laws.what_came_stays_over_calls.Goals as goal

pub returns : goal.returns
returns c = stays c.what_came_stays.ensures
