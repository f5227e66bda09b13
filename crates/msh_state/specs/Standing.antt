-- Effects that can be applied to an endpoint, one after another.
use Rattle.std.specs.Prelude.{◌≡◌, ◌≤◌, List, [], ◌∷◌, None, length}
use Rattle.as4_effects.specs.declared.effect.Effect.{Effect}
use Rattle.msh_state.specs.Rooms.{TakesNoRoom}
use Rattle.exchange_model.specs.Apply.{first_unfit}
use Rattle.exchange_model.specs.End.{End}

-- effects of which only the last may take room
abbrev pub TakeOneRoom : List Effect → Type 0
TakeOneRoom [] = Unit {0}
TakeOneRoom (effect ∷ []) = Unit {0}
TakeOneRoom (first ∷ second ∷ effects) = TakesNoRoom first × TakeOneRoom (second ∷ effects)

-- effects of one event: each fits after those before it; they are at most as many as an error signal has errors
pub record CanStand (end : End) (effects : List Effect) : Type 0 where
  pub fit : first_unfit effects end ≡ None
  pub few : length effects ≤ 256
  pub one_room : TakeOneRoom effects
