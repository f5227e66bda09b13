-- What is found at the gates of open entries is the inbox.
use Rattle.std.proofs.Common.{◌≡◌, ℕ, zero, suc, List, [], ◌∷◌, refl, ap, ◌∙◌}
use Rattle.as4_effects.specs.declared.effect.Effect.{Effect}
use Rattle.as4_values.specs.declared.payload.Payload.{Payload}
use Rattle.exchange_model.specs.declared.inbox_entry.InboxEntry.{InboxEntry}
use Rattle.inbox.specs.Spots.{Spot}
use Rattle.msh_state.specs.Places.{EachOpen}
use Rattle.payload_gates.specs.Bodies.{lifted, payloads_of}
use Rattle.payload_gates.specs.Gates.{Bring, delivery_in}

module _ (found : ℕ → List Effect) where
  abbrev Brings : Spot → InboxEntry → Type 0
  Brings spot entry = Bring (found spot.gate) entry

  pub lifted_same : (confirmed : ℕ) (spots : List Spot) (inbox : List InboxEntry) → EachOpen Brings confirmed spots inbox → lifted found confirmed spots inbox ≡ inbox
  unfolding lifted
  lifted_same confirmed [] [] each = refl
  lifted_same confirmed [] (e ∷ es) each = absurd each
  lifted_same zero (s ∷ ss) [] each = refl
  lifted_same (suc n) (s ∷ ss) [] each = refl
  lifted_same zero (s ∷ ss) (e ∷ es) each =
      let payloads : payloads_of (delivery_in e.header.id (found s.gate)) ≡ e.payloads = ap payloads_of each.0.found ∙ each.0.payloads in
      ap (λ (p : List Payload). record e { payloads = p } ∷ lifted found zero ss es) payloads ∙ ap (λ (l : List InboxEntry). e ∷ l) (lifted_same zero ss es each.1)
  lifted_same (suc n) (s ∷ ss) (e ∷ es) each = ap (λ (l : List InboxEntry). e ∷ l) (lifted_same n ss es each)
