use Rattle.drill_world.proofs.EndpointLemmas.{checkpoint_folds}
use Rattle.drill_world.proofs.endpoint.Endpoint.fold.Goals as goal
use Rattle.drill_world.proofs.endpoint.Endpoint.fold.Goals.{in-Ok, in-Err}

pub returns-clause-folds : goal.returns-clause-folds
returns-clause-folds c =
    rw (← c.self.view_is)
    (elim c.match-checkpoint.branch [
      | in-Ok w ↦ rw w.result-is (checkpoint_folds _ _ _ _ _ c.self.inside.said.items w.in-Ok.ensures.answer.1)
      | in-Err w ↦ rw w.result-is tt
    ])
