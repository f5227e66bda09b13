use Rattle.history_laws.proofs.ShowingLemmas.{shown_on, shown_over}
use Rattle.history_laws.proofs.laws.what_came_is_shown.Goals as goal

pub returns-clause-shown : goal.returns-clause-shown
returns-clause-shown c = shown_on

pub returns-clause-over_openings : goal.returns-clause-over_openings
returns-clause-over_openings c = shown_over c.an_event_has_one_outcome.ensures c.openings_may_happen.ensures
