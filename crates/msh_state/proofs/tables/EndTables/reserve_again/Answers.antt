use Rattle.msh_state.proofs.NumberLemmas.{one_is_small}
use Rattle.msh_state.proofs.tables.EndTables.reserve_again.Goals as goal

pub reserve-requires : goal.reserve-requires
reserve-requires c = one_is_small _ _ _ c.requires
