use Rattle.std.proofs.Common.{◌≡◌, drop}
use Rattle.std.specs.Vec.Iter.{into_iter_items}
use Rattle.exchange_model.specs.Apply.{after_all}
use Rattle.msh_state.specs.Places.{places_after_all}
use Rattle.msh_core.proofs.PlanLemmas.{CanGo}
use Rattle.msh_core.proofs.applying.apply_all.Given as goal

-- the rest of the plan can be carried out, and leads to the same endpoint and the same places as the whole
abbrev pub invariant-loop-effect : goal.invariant-loop-effect
invariant-loop-effect l = record {
  can : CanGo l.tables.end l.tables.rooms (into_iter_items l.effect-iterator) (drop l.index l.queues);
  leads : after_all (into_iter_items l.effect-iterator) l.tables.end ≡ after_all l.fn.effects l.initial.tables.end;
  places : places_after_all (into_iter_items l.effect-iterator) l.gate l.tables.places
      ≡ places_after_all l.fn.effects l.gate l.initial.tables.places;
}
