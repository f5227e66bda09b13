-- How the record of a step comes to the disk.
use Rattle.std.specs.Prelude.{◌≡◌, ◌≢◌, ◌⊎◌, ℕ, Bool, true, false, List, [], Result, Ok, Err, drop, is_some}
use Rattle.as4_disk.specs.declared.disk.Disk.{Ghosts as DiskMeaning}
use Rattle.as4_disk.specs.Image.{Image}
use Rattle.as4_disk.specs.Leaving.{LeavesOnly}
use Rattle.as4_disk.specs.Runs.{MakesAll}
use Rattle.as4_disk.specs.declared.part.Part.{Part}
use Rattle.as4_effects.specs.declared.effect.Effect.{Effect}
use Rattle.as4_flow.specs.Flow.{Told}
use Rattle.msh_journal.specs.Frames.{IsFrameOf}
use Rattle.msh_recovery.specs.Opens.{IsAtOneOf}
use Rattle.msh_recovery.specs.Puts.{Puts}
use Rattle.msh_recovery.specs.Records.{RecordLeads}
use Rattle.exchange_model.specs.Apply.{applied}
use Rattle.exchange_model.specs.End.{End}
use Rattle.exchange_model.specs.declared.event.Event.{Event}
use Rattle.exchange_model.specs.declared.outcome.Outcome.{Outcome}
use Rattle.exchange_model.specs.declared.reply.Reply.{Reply}
use Rattle.journal.specs.Calls.{record_calls}
use Rattle.journal.specs.Faults.{IsCause}
use Rattle.journal.specs.Leaf.{frame_of}
use Rattle.journal.specs.declared.fault.JournalFault.TheVariants.{Disk}
use Rattle.journal.specs.declared.journal.Journal.{Journal}
use Rattle.inbox.specs.Spots.{Spot}
use Rattle.msh_journal.specs.Payloads.{IsJournalWith}
use Rattle.msh_state.specs.Places.{places_after_all}
use Rattle.msh_core.specs.Machine.{IsReady, Machine}
use Rattle.msh_core.specs.Small.{IsSmallReady, StandsFor}
use Rattle.office.specs.Observed.{StepWhere}
use Rattle.office.specs.State.{OfficeState, machine_of}
use Rattle.as4_disk.specs.declared.fault_counts.FaultCounts.{FaultCounts}
use Rattle.office.specs.declared.step_to_make.StepToMake.{StepToMake}
use Rattle.office.specs.declared.step_to_make.StepToMake.TheVariants.{Planned, WithoutMemory}

-- A record that leads from one end to the next was put on a disk by its four calls, up to one that failed.
pub record Writes {D : Type 0} (M : DiskMeaning D) (old new : D) (end next : End) (ok : Bool) : Type 0 where
  pub part : Part
  pub gate : ℕ
  pub body : List ℕ
  pub leads : RecordLeads body end next
  pub puts : Told (M.seen old) (λ _. Puts (M.may_leave old) part gate (drop 1 (frame_of body)) end next)
  pub calls : MakesAll M.makes (record_calls part gate body) old new ok

-- The outcome's record was put on the disk by its four calls, up to one that failed. Without effects there is no record,
-- and the disk wasn't touched.
abbrev pub IsRecorded : {D : Type 0} → DiskMeaning D → D → D → End → Outcome → Bool → Type 0
IsRecorded M old new end outcome ok =
    ((outcome.effects ≡ []) × (new ≡ old) × (ok ≡ true))
    ⊎ ((outcome.effects ≢ []) × Writes M old new end (applied outcome.effects end) ok)

-- the step has this outcome at this machine
abbrev pub HasOutcome : Machine → Outcome → StepToMake → Type 0
HasOutcome machine outcome (Planned plan frame) =
    (plan.outcome ≡ outcome) × IsReady machine plan × IsFrameOf outcome.effects frame
HasOutcome machine outcome (WithoutMemory plan) = IsSmallReady machine plan × StandsFor machine.end plan outcome

-- the reply that its plan shows
abbrev pub HasReply : StepToMake → Reply → Type 0
HasReply (Planned plan frame) r = r ≡ plan.outcome.reply
HasReply (WithoutMemory plan) r = Unit {0}

-- and it is what the office does with the event
abbrev pub IsStepFor : {D : Type 0} → DiskMeaning D → OfficeState D → Event → StepToMake → Type 0
IsStepFor M office event step =
    (outcome : Outcome) × StepWhere (is_some (M.seen office.disk)) office.modes office.end event outcome
    × HasOutcome (machine_of office) outcome step

module _ {D : Type 0} (M : DiskMeaning D) (old new : Journal D) (end : End) where
  -- a record that leads on to this endpoint, with these places, was appended to the journal
  pub record Appends (next : End) (places : List Spot) (ok : Bool) : Type 0 where
    pub kept : ok ≡ true → IsJournalWith M next places new
    pub any_moment : Told (M.seen old.disk) (λ _. LeavesOnly M old.disk new.disk
        (λ (c : Image). IsAtOneOf c end next))
    pub writes : Writes M old.disk new.disk end next ok

  -- the outcome's record was appended at this gate, if it has effects
  pub record RecordsStep (places : List Spot) (outcome : Outcome) (gate : ℕ) (ok : Bool) : Type 0 where
    pub kept : ok ≡ true → IsJournalWith M (applied outcome.effects end) (places_after_all outcome.effects gate places) new
    pub any_moment : Told (M.seen old.disk) (λ _. LeavesOnly M old.disk new.disk
        (λ (c : Image). IsAtOneOf c end (applied outcome.effects end)))
    pub recorded : IsRecorded M old.disk new.disk end outcome ok

  -- by cases on the answer, which is the record's gate or the counts of the disk's faults
  abbrev pub AppendsAt : List Spot → List Effect → Result ℕ FaultCounts → Type 0
  AppendsAt places effects (Ok gate) = Appends (applied effects end) (places_after_all effects gate places) true
  AppendsAt places effects (Err halt) = Appends (applied effects end) places false

  abbrev pub Records : List Spot → Outcome → Result ℕ FaultCounts → Type 0
  Records places outcome (Ok gate) = RecordsStep places outcome gate true
  Records places outcome (Err halt) = RecordsStep places outcome 0 false

-- the disk's count of faults stays at Ok, and else it rises, and the halt tells it before and after
abbrev pub TellsCounts : {T : Type 0} → ℕ → ℕ → Result T FaultCounts → Type 0
TellsCounts before now (Ok value) = now ≡ before
TellsCounts before now (Err halt) = IsCause before now (Disk halt.before halt.after)
