use Rattle.history_laws.proofs.OpeningLemmas.{once_over, safe_over}
use Rattle.history_laws.proofs.laws.an_end_is_safe_over_openings.Goals as goal

pub returns-clause-safe : goal.returns-clause-safe
returns-clause-safe c = safe_over c.openings_may_happen.ensures c.an_end_is_safe.ensures

pub returns-clause-once : goal.returns-clause-once
returns-clause-once c = once_over c.openings_may_happen.ensures c.an_end_is_safe.ensures
