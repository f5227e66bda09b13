use Rattle.history_laws.proofs.TurnLemmas.{left_part, right_part}
use Rattle.history_laws.proofs.laws.a_history_goes_on_with_a_run.Goals as goal

pub returns-clause-left : goal.returns-clause-left
returns-clause-left c = left_part c.two_offices_deliver_once.ensures

pub returns-clause-right : goal.returns-clause-right
returns-clause-right c = right_part c.two_offices_deliver_once.ensures
