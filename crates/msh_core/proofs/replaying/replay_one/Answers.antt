use Rattle.std.proofs.Common.{ap, ◌∙◌}
use Rattle.exchange_model.specs.Apply.{after}
use Rattle.msh_state.specs.Places.{places_after}
use Rattle.msh_core.proofs.MeasuredLemmas.{consistent_after, consistent_same}
use Rattle.msh_core.proofs.replaying.replay_one.Goals as goal

pub returns-in-Ok-clause-consistent : goal.returns-in-Ok-clause-consistent
returns-in-Ok-clause-consistent c consistent =
    consistent_same _ _ _ _ (c.apply.ensures.end ∙ ap (after c.args.effect) c.room_for_one.ensures.end)
    (c.apply.ensures.places ∙ ap (places_after c.args.effect c.args.gate) c.room_for_one.ensures.places)
    (consistent_after c.args.effect c.args.gate c.args.tables.now.end c.args.tables.now.places c.requires consistent)

pub returns-in-Err-clause-consistent : goal.returns-in-Err-clause-consistent
returns-in-Err-clause-consistent c consistent =
    consistent_same _ _ _ _ c.room_for_one.ensures.end c.room_for_one.ensures.places consistent
