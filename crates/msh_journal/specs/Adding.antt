-- How the records of an endpoint's compaction are added to the other leaf.
use Rattle.std.specs.Prelude.{◌≡◌, ℕ, ◌+◌, ◌≤◌, false, slice_get, List, [], ◌∷◌, ◌++◌, if◌then◌else◌, Some, map}
use Rattle.std.specs.List.{sum_by}
use Rattle.as4_disk.specs.declared.disk.Disk.{Ghosts as DiskMeaning}
use Rattle.as4_effects.specs.declared.effect.Effect.{Effect}
use Rattle.as4_flow.specs.Flow.{Told}
use Rattle.event_code.specs.Spelled.{AreSpelled, IsSpelledEffect}
use Rattle.exchange_model.specs.Apply.{record_len}
use Rattle.exchange_model.specs.End.{End}
use Rattle.inbox.specs.Spots.{Spot}
use Rattle.journal.specs.State.{HasFold}
use Rattle.journal.specs.declared.journal.Journal.{Journal}
use Rattle.journal.specs.declared.version.Version.TheVariants.{Two}
use Rattle.msh_core.specs.Folding.{IsNotOpen}
use Rattle.msh_journal.specs.Payloads.{HoldsPayloads, gate_at}
use Rattle.msh_recovery.specs.Records.{alone}
use Rattle.payload_gates.specs.Gates.{AreGates, is_delivery}

-- how many bytes the records of these effects have, each alone
abbrev pub bytes_of : List Effect → ℕ
bytes_of effects = sum_by (λ (e : Effect). record_len (e ∷ [])) effects

-- the gate of an open entry's place
abbrev pub IsGateOfOpen : End → List Spot → ℕ → Type 0
IsGateOfOpen end places gate =
    (n : ℕ) × (len : ℕ) × (end.confirmed ≤ n) × (slice_get places n ≡ Some (record { gate = gate; length = len }))

-- where the compaction has no open entry at this place, the effect isn't a delivery
abbrev pub IsToldApart : End → ℕ → Effect → Type 0
IsToldApart end part effect = IsNotOpen end part → is_delivery effect ≡ false

module _ {D : Type 0} (M : DiskMeaning D) where
  -- a fold is open, and where the disk is observable, the journal's records have the payloads
  abbrev pub FoldHasPayloads : End → List Spot → Journal D → Type 0
  FoldHasPayloads end places journal =
      Told (M.seen journal.disk) (λ _. (bodies : List (List ℕ)) × (folded : List (List ℕ)) × HasFold M journal bodies folded × HoldsPayloads journal.version bodies end places)

  -- a fold that has no records is open, and where the disk is observable, the journal's records have the payloads
  abbrev pub NewFoldHasPayloads : End → List Spot → Journal D → Type 0
  NewFoldHasPayloads end places journal =
      Told (M.seen journal.disk) (λ _. (bodies : List (List ℕ)) × HasFold M journal bodies [] × HoldsPayloads journal.version bodies end places)

  -- the journal's records are as they were, and a fold is open
  pub record KeepsFold (old new : Journal D) : Type 0 where
    pub gate : new.gate ≡ old.gate
    pub version : new.version ≡ old.version
    pub kept : (bodies folded : List (List ℕ)) → HasFold M old bodies folded → (more : List (List ℕ)) × HasFold M new bodies more

  -- the journal's records are as they were, and a fold that had no records is open
  abbrev pub KeepsNewFold : Journal D → Journal D → Type 0
  KeepsNewFold old new = (new.gate ≡ old.gate) × (new.version ≡ old.version)
      × ((bodies : List (List ℕ)) → HasFold M old bodies [] → (folded : List (List ℕ)) × HasFold M new bodies folded)

  -- the record of this effect was added
  pub record AddsRecord (old new : Journal D) (effect : Effect) : Type 0 where
    pub gate : new.gate ≡ old.gate
    pub version : new.version ≡ old.version
    pub fold : (place : ℕ) → old.fold ≡ Some place → new.fold ≡ Some (place + record_len (effect ∷ []))
    pub added : (bodies folded : List (List ℕ)) → HasFold M old bodies folded
        → IsSpelledEffect effect × HasFold M new bodies (folded ++ alone effect ∷ [])

  -- the record of this effect was added, and where it is a delivery, its gate was noted
  pub record AddsPart (old new : Journal D) (effect : Effect) (before after : List ℕ) : Type 0 where
    pub adds : AddsRecord old new effect
    pub noted : (place : ℕ) → old.fold ≡ Some place → after ≡ (if is_delivery effect then before ++ place ∷ [] else before)

  -- the records of these effects were added to a fold that had none; the gates are those of the deliveries among them
  pub record HasAdded (first now : Journal D) (effects : List Effect) (gates : List ℕ) : Type 0 where
    pub gate : now.gate ≡ first.gate
    pub version : now.version ≡ first.version
    pub fold : now.fold ≡ Some (8 + bytes_of effects)
    pub noted : AreGates (gate_at Two) [] effects gates
    pub added : (bodies : List (List ℕ)) → HasFold M first bodies [] → AreSpelled effects × HasFold M now bodies (map alone effects)
