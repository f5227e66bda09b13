-- Where the payloads of the received messages are, and what an effect changes of it.
use Rattle.std.specs.Prelude.{◌≡◌, ℕ, zero, suc, ◌+◌, List, [], ◌∷◌, ◌++◌, length}
use Rattle.as4_effects.specs.Sound.{delivered_body}
use Rattle.as4_effects.specs.declared.effect.Effect.{Effect}
use Rattle.as4_effects.specs.declared.effect.Effect.TheVariants as effect
use Rattle.as4_values.specs.declared.header.UserHeader.{UserHeader}
use Rattle.as4_values.specs.declared.payload.Payload.{Payload}
use Rattle.exchange_model.specs.declared.inbox_entry.InboxEntry.{InboxEntry}
use Rattle.inbox.specs.Spots.{Spot}

-- the length of a body that delivers this message alone
unfoldable pub delivery_len : UserHeader → List Payload → ℕ
delivery_len header payloads = length (delivered_body header payloads) + 2

-- An effect of the record at this gate: a delivered message's payloads are there, and a kept header has none.
unfoldable pub places_after : Effect → ℕ → List Spot → List Spot
places_after (effect.Delivered delivery) gate places =
    places ++ record { gate = gate; length = delivery_len delivery.header delivery.payloads } ∷ []
places_after (effect.Kept kept) gate places = places ++ record { gate = 0; length = 0 } ∷ []
places_after other gate places = places

-- effects of one record, in order
unfoldable pub places_after_all : List Effect → ℕ → List Spot → List Spot
places_after_all [] gate places = places
places_after_all (effect ∷ effects) gate places = places_after_all effects gate (places_after effect gate places)

-- P holds of each received message and its place, except for the first ones, which are confirmed
abbrev pub EachOpen : (Spot → InboxEntry → Type 0) → ℕ → List Spot → List InboxEntry → Type 0
EachOpen P confirmed [] [] = Unit {0}
EachOpen P zero (spot ∷ spots) (entry ∷ entries) = P spot entry × EachOpen P zero spots entries
EachOpen P (suc confirmed) (spot ∷ spots) (entry ∷ entries) = EachOpen P confirmed spots entries
EachOpen P confirmed spots entries = ⊥

-- the place has the length that the message's delivery has
abbrev pub IsMeasured : Spot → InboxEntry → Type 0
IsMeasured spot entry = spot.length ≡ delivery_len entry.header entry.payloads
