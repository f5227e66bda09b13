-- An inbox whose open entries have the payloads that a map from gates to effects has for them.
use Rattle.std.specs.Prelude.{ℕ, zero, suc, List, [], ◌∷◌, Option, Some, None}
use Rattle.as4_effects.specs.declared.delivery.Delivery.{Delivery}
use Rattle.as4_effects.specs.declared.effect.Effect.{Effect}
use Rattle.as4_values.specs.declared.payload.Payload.{Payload}
use Rattle.exchange_model.specs.declared.inbox_entry.InboxEntry.{InboxEntry}
use Rattle.inbox.specs.Spots.{Spot}
use Rattle.payload_gates.specs.Gates.{delivery_in}

-- those of the delivery; none where there is no delivery
abbrev pub payloads_of : Option Delivery → List Payload
payloads_of None = []
payloads_of (Some delivery) = delivery.payloads

-- Each entry but the first ones, which are confirmed, has the payloads that are found at the gate of its place.
unfoldable pub lifted : (ℕ → List Effect) → ℕ → List Spot → List InboxEntry → List InboxEntry
lifted found n spots [] = []
lifted found n [] (entry ∷ inbox) = entry ∷ inbox
lifted found zero (spot ∷ spots) (entry ∷ inbox) =
    record entry { payloads = payloads_of (delivery_in entry.header.id (found spot.gate)) } ∷ lifted found zero spots inbox
lifted found (suc n) (spot ∷ spots) (entry ∷ inbox) = entry ∷ lifted found n spots inbox
