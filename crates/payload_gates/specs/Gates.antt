-- Which record of a journal has the payloads of a received message, and where a compaction moves them. Records are lists
-- of effects here; `gate_of` is the gate of the record that follows some records, whatever the journal's format is.
use Rattle.std.specs.Prelude.{◌≡◌, ℕ, zero, suc, List, [], ◌∷◌, ◌++◌, Bool, true, false, if◌then◌else◌, Option, Some, None, map}
use Rattle.std.specs.Str.{bytes_eq}
use Rattle.as4_effects.specs.declared.delivery.Delivery.{Delivery}
use Rattle.as4_effects.specs.declared.effect.Effect.{Effect}
use Rattle.as4_effects.specs.declared.effect.Effect.TheVariants as effect
use Rattle.exchange_model.specs.declared.inbox_entry.InboxEntry.{InboxEntry}
use Rattle.inbox.specs.Spots.{Spot}

-- the first delivery of this identifier among these effects
unfoldable pub delivery_in : List ℕ → List Effect → Option Delivery
delivery_in id [] = None
delivery_in id (effect.Delivered delivery ∷ effects) =
    if bytes_eq delivery.header.id id then Some delivery else delivery_in id effects
delivery_in id (other ∷ effects) = delivery_in id effects

-- the first delivery of the entry's identifier among these effects is the entry's
pub record Bring (effects : List Effect) (entry : InboxEntry) : Type 0 where
  pub delivery : Delivery
  pub found : delivery_in entry.header.id effects ≡ Some delivery
  pub header : delivery.header ≡ entry.header
  pub payloads : delivery.payloads ≡ entry.payloads

-- the place has the gate of one of these records, and that record brings the entry
pub record IsHeldIn (gate_of : List (List Effect) → ℕ) (records : List (List Effect)) (spot : Spot) (entry : InboxEntry) : Type 0 where
  pub before : List (List Effect)
  pub effects : List Effect
  pub later : List (List Effect)
  pub records_are : records ≡ before ++ effects ∷ later
  pub gate : spot.gate ≡ gate_of before
  pub brings : Bring effects entry

-- the effect changes no place: it isn't a message that was received
abbrev pub BringsNothing : Effect → Type 0
BringsNothing (effect.Delivered delivery) = ⊥
BringsNothing (effect.Kept kept) = ⊥
BringsNothing other = Unit {0}

-- each of these effects in a record of its own
unfoldable pub one_by_one : List Effect → List (List Effect)
one_by_one effects = map (λ (e : Effect). e ∷ []) effects

abbrev pub is_delivery : Effect → Bool
is_delivery (effect.Delivered delivery) = true
is_delivery other = false

-- Each of these effects has a record of its own, which follow these records. These are the gates of those that are
-- deliveries, in order.
unfoldable pub AreGates : (List (List Effect) → ℕ) → List (List Effect) → List Effect → List ℕ → Type 0
AreGates gate_of before [] [] = Unit {0}
AreGates gate_of before [] (gate ∷ gates) = ⊥
AreGates gate_of before (effect.Delivered delivery ∷ effects) [] = ⊥
AreGates gate_of before (effect.Delivered delivery ∷ effects) (gate ∷ gates) =
    (gate ≡ gate_of before) × AreGates gate_of (before ++ (effect.Delivered delivery ∷ []) ∷ []) effects gates
AreGates gate_of before (other ∷ effects) gates = AreGates gate_of (before ++ (other ∷ []) ∷ []) effects gates

-- the places, of which those from this number on have these gates, as far as there are any
unfoldable pub moved : ℕ → List ℕ → List Spot → List Spot
moved n gates [] = []
moved zero [] (spot ∷ spots) = spot ∷ spots
moved zero (gate ∷ gates) (spot ∷ spots) = record spot { gate = gate } ∷ moved zero gates spots
moved (suc n) gates (spot ∷ spots) = spot ∷ moved n gates spots
