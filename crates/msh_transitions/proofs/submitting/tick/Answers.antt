use Rattle.std.proofs.Common.{refl, arith}
use Rattle.msh_transitions.proofs.OwnRows.{ticks}
use Rattle.msh_transitions.proofs.StandLemmas.{gives_stands, tick_fits}
use Rattle.msh_transitions.proofs.submitting.tick.Goals as goal

pub returns-clause-row : goal.returns-clause-row
returns-clause-row c = ticks _ _ _ _ _ c.gives.ensures (omega arith) refl c.spent-failed.ensures

pub returns-clause-stands : goal.returns-clause-stands
returns-clause-stands c = gives_stands _ _ _ _ c.gives.ensures (tick_fits _ c.args.tables.now.end (omega arith))
