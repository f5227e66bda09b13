use Rattle.outcome_laws.proofs.OneOutcome.{one_outcome}
use Rattle.outcome_laws.proofs.laws.an_event_has_one_outcome.Goals as goal

pub returns : goal.returns
returns c = one_outcome
