use Rattle.exchange_model.specs.World.{new_world, world_after}
use Rattle.exchange_laws.proofs.Rounds.{settles}
use Rattle.exchange_laws.proofs.WorldLemmas.{world_holds, new_world_holds}
use Rattle.exchange_laws.proofs.laws.a_round_settles.Goals as goal

pub returns : goal.returns
returns c acts site s may = settles site s (world_after acts new_world) (world_holds acts new_world new_world_holds may)
