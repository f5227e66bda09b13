use Rattle.msh_state.proofs.HeadLemmas.{behind_found, behind_shown}
use Rattle.msh_state.proofs.tables.EndTables.head_behind.Goals as goal

pub returns-clause-value : goal.returns-clause-value
returns-clause-value c =
    rw (← c.self.view_is)
    (behind_shown _ _ _ _ _ c.head_without.ensures c.self.invariant.0 c.len-numbered.ensures.numbered (rw (← c.self.view_is) at c.requires))

pub returns-clause-found : goal.returns-clause-found
returns-clause-found c =
    rw (← c.self.view_is)
    (behind_found _ _ _ _ c.len-numbered.ensures.numbered
    (behind_shown _ _ _ _ _ c.head_without.ensures c.self.invariant.0 c.len-numbered.ensures.numbered (rw (← c.self.view_is) at c.requires)))
