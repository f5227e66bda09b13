-- What an audit says of the records of a leaf.
use Rattle.std.specs.Prelude.{◌≡◌, ℕ, zero, suc, List, [], ◌∷◌, Option, Some, None, length}
use Rattle.as4_audit.specs.Made.{Fits, IsMade, Makes}
use Rattle.as4_audit.specs.Start.{start_of}
use Rattle.as4_audit.specs.declared.finding.Audit.{Audit}
use Rattle.as4_audit.specs.declared.finding.Audit.TheVariants as audit
use Rattle.as4_audit.specs.declared.finding.Finding.{Finding}
use Rattle.as4_audit.specs.declared.finding.Finding.TheVariants as finding
use Rattle.as4_effects.specs.declared.effect.Effect.{Effect}
use Rattle.exchange_model.specs.Apply.{applied}
use Rattle.exchange_model.specs.End.{End, empty_end}
use Rattle.exchange_model.specs.declared.event.Event.{Event}
use Rattle.journal.specs.Leaf.{Lists}
use Rattle.mode_values.specs.declared.mode.Mode.{Mode}
use Rattle.msh_recovery.specs.Records.{IsBodyOf}

-- the effects of a body; none where it is no body of effects
abbrev pub Reads : List ℕ → Option (List Effect) → Type 0
Reads body None = (effects : List Effect) → IsBodyOf effects body → ⊥
Reads body (Some effects) = IsBodyOf effects body

abbrev pub AllRead : List (List ℕ) → List (Option (List Effect)) → Type 0
AllRead [] [] = Unit {0}
AllRead (body ∷ bodies) (item ∷ records) = Reads body item × AllRead bodies records
AllRead bodies records = ⊥

-- All records are right, one after the other from this endpoint: the effects of the first `start` ones fit. Each later
-- one is made, and the machine gives exactly its effects for the next of these events.
abbrev pub AreRight : List Mode → ℕ → End → List (Option (List Effect)) → List Event → Type 0
AreRight modes start end [] events = events ≡ []
AreRight modes start end (None ∷ records) events = ⊥
AreRight modes (suc start) end (Some effects ∷ records) events =
    Fits end effects × AreRight modes start (applied effects end) records events
AreRight modes zero end (Some effects ∷ records) [] = ⊥
AreRight modes zero end (Some effects ∷ records) (event ∷ events) =
    IsMade modes end effects × Makes modes end event effects × AreRight modes zero (applied effects end) records events

-- the record at this place is the first that isn't right: it has no effects, or they don't fit, or it is after the start
-- and isn't made
abbrev pub IsFirstWrong : List Mode → ℕ → End → List (Option (List Effect)) → ℕ → Type 0
IsFirstWrong modes start end [] index = ⊥
IsFirstWrong modes start end (None ∷ records) index = index ≡ 0
IsFirstWrong modes (suc start) end (Some effects ∷ records) zero = Fits end effects → ⊥
IsFirstWrong modes (suc start) end (Some effects ∷ records) (suc index) =
    Fits end effects × IsFirstWrong modes start (applied effects end) records index
IsFirstWrong modes zero end (Some effects ∷ records) zero = IsMade modes end effects → ⊥
IsFirstWrong modes zero end (Some effects ∷ records) (suc index) =
    IsMade modes end effects × IsFirstWrong modes zero (applied effects end) records index

-- what an audit says of these records
abbrev pub Says : List Mode → List (Option (List Effect)) → Audit → Type 0
Says modes records (audit.Yes start events) =
    (start ≡ start_of records) × AreRight modes (start_of records) empty_end records events
Says modes records (audit.No index) = IsFirstWrong modes (start_of records) empty_end records index

-- and of a leaf
pub record IsAuditOf (modes : List Mode) (leaf : List ℕ) (said : Audit) : Type 0 where
  pub bodies : List (List ℕ)
  pub records : List (Option (List Effect))
  pub lists : Lists bodies leaf
  pub read : AllRead bodies records
  pub says : Says modes records said

-- the same without the events: their number
abbrev pub finding_of : Audit → Finding
finding_of (audit.Yes start events) = finding.Yes start (length events)
finding_of (audit.No index) = finding.No index
