use Rattle.msh_state.proofs.NumberLemmas.{head_found}
use Rattle.msh_state.proofs.HeadLemmas.{head_shown}
use Rattle.msh_state.proofs.tables.EndTables.head.Goals as goal

pub returns-clause-value : goal.returns-clause-value
returns-clause-value c = rw (← c.self.view_is) (head_shown _ _ _ _ c.head.ensures c.self.invariant.0)

pub returns-clause-found : goal.returns-clause-found
returns-clause-found c =
    rw (← c.self.view_is) (head_found _ _ _ c.len-numbered.ensures.numbered (head_shown _ _ _ _ c.head.ensures c.self.invariant.0))
