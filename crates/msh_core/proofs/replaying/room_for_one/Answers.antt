use Rattle.msh_state.proofs.KeptLemmas.{fit_there}
use Rattle.msh_core.proofs.replaying.room_for_one.Goals as goal

pub reserve-requires : goal.reserve-requires
reserve-requires c = record { there = fit_there c.args.effect.now c.args.tables.now.end c.requires }
