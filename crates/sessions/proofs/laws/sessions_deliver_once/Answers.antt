use Rattle.std.proofs.Common.{◌≡◌, ◌∙◌, ◌++◌, List, ap}
use Rattle.office.specs.declared.call.Call.{Call}
use Rattle.sessions.proofs.DeliveryLemmas.{goes_on}
use Rattle.sessions.proofs.laws.sessions_deliver_once.Goals as goal

pub returns-clause-left : goal.returns-clause-left
returns-clause-left g c run l r at calls runs seen start modes none legal heard =
    let part = c.a_history_goes_on_with_a_run.ensures.left run l r at calls legal.0 runs (goes_on g.J.Opening at.left calls seen start modes none legal) heard in
    (part.0, part.1, part.2, part.4 ∙ ap (λ (first : List Call). first ++ calls) none, part.5)

pub returns-clause-right : goal.returns-clause-right
returns-clause-right g c run l r at calls runs seen start modes none legal heard =
    let part = c.a_history_goes_on_with_a_run.ensures.right run l r at calls legal.0 runs (goes_on g.J.Opening at.right calls seen start modes none legal) heard in
    (part.0, part.1, part.2, part.4 ∙ ap (λ (first : List Call). first ++ calls) none, part.5)
