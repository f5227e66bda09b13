use Rattle.msh_state.proofs.NumberLemmas.{id_found}
use Rattle.msh_state.proofs.tables.EndTables.number_of.Goals as goal

pub returns-clause-found : goal.returns-clause-found
returns-clause-found c =
    rw (← c.self.view_is) (id_found _ _ _ c.len-numbered.ensures.numbered c.number_of.ensures)
