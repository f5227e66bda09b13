use Rattle.std.specs.Vec.Iter.{into_iter_items}
use Rattle.std.proofs.Common.{◌≡◌}
use Rattle.msh_state.specs.Places.{places_after_all}
use Rattle.msh_core.specs.Machine.{IsConsistent}
use Rattle.msh_core.proofs.ReplayLemmas.{IsBehind}
use Rattle.msh_core.proofs.replaying.replay_all.Given as goal

-- those so far were applied, and each fitted
abbrev pub invariant-loop-effect : goal.invariant-loop-effect
invariant-loop-effect l = record {
  behind : IsBehind l.fn.effects l.initial.tables.end l.index (into_iter_items l.effect-iterator) l.tables.end;
  places : places_after_all (into_iter_items l.effect-iterator) l.gate l.tables.places
      ≡ places_after_all l.fn.effects l.gate l.initial.tables.places;
  consistent : IsConsistent l.initial.tables.end l.initial.tables.places → IsConsistent l.tables.end l.tables.places;
}
