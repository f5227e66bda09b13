use Rattle.history_laws.proofs.TwoLemmas.{deliver_once}
use Rattle.history_laws.proofs.laws.two_offices_deliver_once.Goals as goal

pub returns : goal.returns
returns c = deliver_once c.a_stop_leaves_what_may_happen.ensures.happened c.messages_are_delivered_once.ensures
