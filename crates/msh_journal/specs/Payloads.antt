-- The journal of an endpoint whose records have the payloads of its open entries.
use Rattle.std.specs.Prelude.{◌≡◌, ℕ, List, [], ◌∷◌, length, map}
use Rattle.as4_disk.specs.declared.disk.Disk.{Ghosts as DiskMeaning}
use Rattle.as4_effects.specs.Effects.{effects_body}
use Rattle.as4_effects.specs.declared.effect.Effect.{Effect}
use Rattle.as4_flow.specs.Flow.{Told}
use Rattle.exchange_model.specs.End.{End}
use Rattle.inbox.specs.Spots.{Spot}
use Rattle.journal.specs.Leaf.{front_of}
use Rattle.journal.specs.State.{HasRecords}
use Rattle.journal.specs.declared.journal.Journal.{Journal}
use Rattle.journal.specs.declared.version.Version.{Version}
use Rattle.msh_recovery.specs.Opens.{IsJournalOf}
use Rattle.msh_recovery.specs.Records.{IsBodyOf}
use Rattle.msh_state.specs.Places.{EachOpen}
use Rattle.payload_gates.specs.Gates.{IsHeldIn}

-- the gate of the record that follows these, in a leaf of this version
abbrev pub gate_at : Version → List (List Effect) → ℕ
gate_at version records = length (front_of version (map effects_body records))

-- each of these lists of effects is that of a record
abbrev pub AreWritten : List (List Effect) → Type 0
AreWritten [] = Unit {0}
AreWritten (effects ∷ records) = IsBodyOf effects (effects_body effects) × AreWritten records

-- The records with these bodies, in a leaf of this version, have the payloads of the endpoint's open entries: each place
-- has the gate of the record that delivers the entry.
pub record HoldsPayloads (version : Version) (bodies : List (List ℕ)) (end : End) (places : List Spot) : Type 0 where
  pub records : List (List Effect)
  pub bodies_are : bodies ≡ map effects_body records
  pub written : AreWritten records
  pub each : EachOpen (IsHeldIn (gate_at version) records) end.confirmed places end.inbox

-- where the disk is observable, the journal's records have the payloads
abbrev pub HasPayloads : {D : Type 0} → DiskMeaning D → End → List Spot → Journal D → Type 0
HasPayloads M end places journal =
    Told (M.seen journal.disk) (λ _. (bodies : List (List ℕ)) × HasRecords M journal bodies × HoldsPayloads journal.version bodies end places)

-- the journal of an endpoint, with the places of the payloads of its open entries
pub record IsJournalWith {D : Type 0} (M : DiskMeaning D) (end : End) (places : List Spot) (journal : Journal D) : Type 0 where
  pub is : IsJournalOf M end journal
  pub held : HasPayloads M end places journal
