-- What is found of a call's step when the office is opened again, after the call or inside it.
use Rattle.std.specs.Prelude.{◌≡◌, ◌≢◌, ◌⊎◌, ℕ, ◌+◌, ◌≤◌, Bool, true, List, [], ◌∷◌, None, Result, Ok, Err, drop, is_some, length, take}
use Rattle.as4_disk.specs.Bytes.{IsOverwritten, Torn}
use Rattle.as4_disk.specs.Changes.{LeftOf}
use Rattle.as4_disk.specs.Image.{Image, On}
use Rattle.as4_disk.specs.Leaving.{Quiet}
use Rattle.as4_disk.specs.Memory.{DiskState, MayLeave}
use Rattle.as4_disk.specs.Runs.{MakesAll}
use Rattle.as4_disk.specs.declared.disk.Disk.{Ghosts as DiskMeaning}
use Rattle.as4_disk.specs.declared.part.Part.{Part}
use Rattle.as4_flow.specs.Flow.{Told}
use Rattle.exchange_model.specs.Apply.{applied}
use Rattle.exchange_model.specs.End.{End}
use Rattle.exchange_model.specs.Table.{Step}
use Rattle.exchange_model.specs.declared.event.Event.{Event}
use Rattle.exchange_model.specs.declared.outcome.Outcome.{Outcome}
use Rattle.exchange_model.specs.declared.reply.Reply.{Reply}
use Rattle.journal.specs.Calls.{record_calls}
use Rattle.journal.specs.Leaf.{frame_of}
use Rattle.msh_recovery.specs.Opens.{ReadsAs}
use Rattle.office.specs.Calls.{stop_of}
use Rattle.office.specs.Observed.{StepWhere}
use Rattle.office.specs.State.{OfficeState}
use Rattle.office.specs.declared.fault.OfficeFault.{OfficeFault}

-- the disk reads as this end, and as no other
pub record IsFound (image : Image) (end : End) : Type 0 where
  pub reads : ReadsAs image end
  pub only : (other : End) → ReadsAs image other → end ≡ other

module _ {D : Type 0} (M : DiskMeaning D) where
  -- this end is found, whatever a power failure leaves now
  abbrev pub Finds : D → End → Type 0
  Finds disk end = Told (M.seen disk) (λ _. (c : Image) → M.may_leave disk c → IsFound c end)

  -- nothing was written
  abbrev pub IsUntouched : D → D → Type 0
  IsUntouched old new = (new ≡ old) ⊎ Quiet M old new

  -- The four device calls that put a record on the disk were made, up to one that failed. Until its gate (the commit byte)
  -- is written, the end before is found, whatever came of the record's other bytes. With the gate the end after is found.
  pub record IsGated (old new : D) (end next : End) (ok : Bool) : Type 0 where
    pub part : Part
    pub gate : ℕ
    pub body : List ℕ
    pub calls : MakesAll M.makes (record_calls part gate body) old new ok
    pub before : Told (M.seen old) (λ _. (c d : Image) → M.may_leave old c
        → On part (Torn (gate + 1) (length (drop 1 (frame_of body)))) c d → IsFound d end)
    pub passed : Told (M.seen old) (λ _. (c d e : Image) → M.may_leave old c
        → On part (IsOverwritten (gate + 1) (drop 1 (frame_of body))) c d → On part (IsOverwritten gate (1 ∷ [])) d e → IsFound e next)

  module _ (old new : OfficeState D) where
    -- The event's step is made, with this reply, and the end after it is found. If the step has effects, its record is all
    -- that the call writes, and if not, nothing is written.
    pub record StandsAfter (event : Event) (r : Reply) : Type 0 where
      pub outcome : Outcome
      pub step : StepWhere (is_some (M.seen old.disk)) old.modes old.end event outcome
      pub reply : r ≡ outcome.reply
      pub found : Finds new.disk (applied outcome.effects old.end)
      pub rests : outcome.effects ≡ [] → IsUntouched old.disk new.disk
      pub gated : outcome.effects ≢ [] → IsGated old.disk new.disk old.end (applied outcome.effects old.end) true

    -- after a call that handles an event: a reply's step stands; after a refusal, unless the disk failed, nothing was written,
    -- and the end before is found
    abbrev pub Stands : Event → Result Reply OfficeFault → Type 0
    Stands event (Ok r) = StandsAfter event r
    Stands event (Err fault) = stop_of new.list ≡ None → IsUntouched old.disk new.disk × Finds new.disk old.end

-- Over a disk in memory, whose moments are numbers of changes: the four calls write and sync all of the record but its gate,
-- and then the gate. Until the first two are made, the end before is found.
abbrev pub WaitsForGate : DiskState → DiskState → End → Type 0
WaitsForGate old new end =
    (moment : ℕ) (c : Image) → length old.changes ≤ moment → moment ≤ length old.changes + 2
    → LeftOf new.first (take moment new.changes) c → IsFound c end

-- Then one of both ends is found, and after all four the end after.
pub record PassesGate (old new : DiskState) (end next : End) : Type 0 where
  pub four : length new.changes ≡ length old.changes + 4
  pub waits : WaitsForGate old new end
  pub opens : (moment : ℕ) (c : Image) → length old.changes ≤ moment → moment ≤ length new.changes
      → LeftOf new.first (take moment new.changes) c → IsFound c end ⊎ IsFound c next
  pub passed : (c : Image) → MayLeave new c → IsFound c next

module _ (old new : OfficeState DiskState) where
  -- the event's step was made, with this reply; its record, if it has effects, passed its gate
  pub record StepsByGate (event : Event) (r : Reply) : Type 0 where
    pub outcome : Outcome
    pub step : Step old.modes old.end event outcome
    pub reply : r ≡ outcome.reply
    pub by_gate : outcome.effects ≢ [] → PassesGate old.disk new.disk old.end (applied outcome.effects old.end)
