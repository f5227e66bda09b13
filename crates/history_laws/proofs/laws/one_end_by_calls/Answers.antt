use Rattle.history_laws.proofs.FollowingLemmas.{agreeing_end, one_end}
use Rattle.history_laws.proofs.laws.one_end_by_calls.Goals as goal

pub returns-clause-same : goal.returns-clause-same
returns-clause-same c = one_end c.an_event_has_one_outcome.ensures

pub returns-clause-agreeing : goal.returns-clause-agreeing
returns-clause-agreeing c = agreeing_end c.an_event_has_one_outcome.ensures
