-- How a step is prepared: what is known of it, and what changes.
use Rattle.std.specs.Prelude.{◌≡◌, ◌⊎◌, ◌≤◌, ℕ, List, [], Option, None, Some, Result, Ok, Err, IfSome, is_some}
use Rattle.as4_values.specs.declared.payload.Payload.{Payload}
use Rattle.journal.specs.declared.fault.JournalFault.{JournalFault}
use Rattle.journal.specs.declared.fault.JournalFault.TheVariants.{Disk}
use Rattle.as4_disk.specs.Leaving.{Quiet}
use Rattle.as4_disk.specs.declared.disk.Disk.{Ghosts as DiskMeaning}
use Rattle.as4_disk.specs.declared.fault_counts.FaultCounts.{FaultCounts}
use Rattle.as4_flow.specs.Flow.{Rose}
use Rattle.exchange_model.specs.declared.event.Event.{Event}
use Rattle.exchange_model.specs.declared.reply.Reply.TheVariants as reply
use Rattle.exchange_model.specs.declared.what.What.TheVariants as what
use Rattle.msh_core.specs.Machine.{IsReady, Planned, filled}
use Rattle.msh_recovery.specs.Opens.{KeepsEnd}
use Rattle.office.specs.Calls.{stop_of}
use Rattle.office.specs.Observed.{RepliesToRead, StepWhere}
use Rattle.office.specs.State.{OfficeState, TakesEvents, machine_of}

-- an event with its plan; and the counts of faults, if the disk failed when the payloads of a message were read
pub record Prepared : Type 0 where
  pub event : Event
  pub plan : Planned
  pub failed : Option FaultCounts

-- a plan after its payloads were fetched, and the counts of faults if the disk failed
abbrev pub Completes : Planned → Result (Option (List Payload)) JournalFault → Planned → Option FaultCounts → Type 0
Completes plan (Ok (Some payloads)) made failed =
    (made ≡ record plan { outcome = filled payloads plan.outcome }) × (failed ≡ None)
Completes plan (Ok None) made failed =
    (made ≡ record plan { outcome = record plan.outcome { reply = reply.Gone } }) × (failed ≡ None)
Completes plan (Err (Disk before after)) made failed =
    (made ≡ record plan { outcome = record plan.outcome { reply = reply.Stopped before after } })
    × (failed ≡ Some (record { before = before; after = after }))
Completes plan (Err other) made failed = ⊥

-- the result is a fault that isn't the disk's
abbrev pub IsStarved : {T : Type 0} → Result T JournalFault → Type 0
IsStarved (Ok value) = ⊥
IsStarved (Err (Disk before after)) = ⊥
IsStarved (Err other) = Unit {0}

module _ {D : Type 0} (M : DiskMeaning D) where
  -- The disk wasn't touched. If the event reads a message, the disk may have been read.
  abbrev pub OnlyReads : Event → D → D → Type 0
  OnlyReads event old new = (new ≡ old) ⊎ ((number : ℕ) × (event.what ≡ what.Read number) × Quiet M old new)

  -- the disk failed when it was read, and nothing else has changed but room
  pub record FailsReading (old new : OfficeState D) (event : Event) (at : FaultCounts) : Type 0 where
    pub number : ℕ
    pub asked : event.what ≡ what.Read number
    pub going : TakesEvents old
    pub same : new ≡ record old { disk = new.disk; rooms = new.rooms }
    pub quiet : Quiet M old.disk new.disk
    pub old_count : at.before ≡ M.fault_count old.disk
    pub new_count : at.after ≡ M.fault_count new.disk
    pub grew : at.before ≤ at.after
    pub rose : Rose at.before at.after
    pub safe : KeepsEnd M old.disk old.end

  -- The event's step was prepared: the plan can be carried out, and its outcome is the event's. Room was made, and nothing
  -- else has changed.
  pub record Prepares (old new : OfficeState D) (ready : Prepared) : Type 0 where
    pub same : new ≡ record old { disk = new.disk; rooms = new.rooms }
    pub read : OnlyReads ready.event old.disk new.disk
    pub planned : IsReady (machine_of new) ready.plan
    pub step : TakesEvents old → ready.failed ≡ None
        → StepWhere (is_some (M.seen old.disk)) old.modes old.end ready.event ready.plan.outcome
    -- the disk failed, and the reply says so
    pub failed : IfSome ready.failed (λ at. FailsReading old new ready.event at
        × (ready.plan.outcome.reply ≡ reply.Stopped at.before at.after))
    -- an office that makes no events reads nothing; if it stands still, the reply to a `Read` says so
    pub still : (TakesEvents old → ⊥) → new.disk ≡ old.disk
    pub refused : IfSome (stop_of old.list) (λ halt. (number : ℕ) → ready.event.what ≡ what.Read number
        → ready.plan.outcome.reply ≡ reply.Stopped halt.before halt.after)
    -- no device call failed, and a crash leaves the endpoint
    pub calm : ready.failed ≡ None → M.fault_count new.disk ≡ M.fault_count old.disk
    pub safe : stop_of old.list ≡ None → KeepsEnd M old.disk old.end

  -- the payloads for the reply to a `Read` were read, or the disk failed
  pub record ReadsPayloads (old new : OfficeState D) (number : ℕ) (plan : Planned) (failed : Option FaultCounts) : Type 0 where
    pub same : new ≡ record old { disk = new.disk }
    pub read : (new.disk ≡ old.disk) ⊎ Quiet M old.disk new.disk
    pub planned : IsReady (machine_of old) plan
    pub rests : plan.outcome.effects ≡ []
    pub replies : TakesEvents old → failed ≡ None → RepliesToRead (is_some (M.seen old.disk)) old.end number plan.outcome.reply
    pub counted : IfSome failed (λ at. TakesEvents old × Quiet M old.disk new.disk × (at.before ≡ M.fault_count old.disk)
        × (at.after ≡ M.fault_count new.disk) × (at.before ≤ at.after) × Rose at.before at.after × (plan.outcome.reply ≡ reply.Stopped at.before at.after))
    pub still : (TakesEvents old → ⊥) → new.disk ≡ old.disk
    pub refused : IfSome (stop_of old.list) (λ halt. plan.outcome.reply ≡ reply.Stopped halt.before halt.after)
    pub calm : failed ≡ None → M.fault_count new.disk ≡ M.fault_count old.disk
    pub safe : stop_of old.list ≡ None → KeepsEnd M old.disk old.end
