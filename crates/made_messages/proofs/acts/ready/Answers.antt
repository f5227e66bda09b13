use Rattle.std.proofs.Common.{◌≡◌, true}
use Rattle.msh_state.proofs.KeptLemmas.{fit_there}
use Rattle.exchange_model.specs.Apply.{is_fit}
use Rattle.made_messages.proofs.acts.ready.Goals as goal

pub reserve-requires : goal.reserve-requires
reserve-requires c =
    let fit : is_fit c.args.effect.now c.args.tables.now.end ≡ true = cc in
    record { there = fit_there c.args.effect.now c.args.tables.now.end fit }
