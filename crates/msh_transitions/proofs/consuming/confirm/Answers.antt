use Rattle.std.proofs.Common.{arith}
use Rattle.msh_transitions.proofs.StandLemmas.{confirmation_fits, gives_stands}
use Rattle.msh_transitions.proofs.consuming.confirm.Goals as goal

pub returns-clause-stands : goal.returns-clause-stands
returns-clause-stands c =
    gives_stands _ _ _ _ c.gives.ensures (confirmation_fits c.args.upto c.args.tables.now.end (omega arith) (omega arith))
