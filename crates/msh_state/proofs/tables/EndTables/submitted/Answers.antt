use Rattle.std.proofs.Common.{arith}
use Rattle.msh_state.proofs.NumberLemmas.{few}
use Rattle.msh_state.proofs.tables.EndTables.submitted.Goals as goal

pub returns-clause-limited : goal.returns-clause-limited
returns-clause-limited c = omega (arith, few _ c.len.ensures.numbered, c.len.ensures.value)

pub returns-clause-numbered : goal.returns-clause-numbered
returns-clause-numbered c = rw (← c.self.view_is) c.len.ensures.numbered
