-- What a call on an office answers, and what it leaves of the office and of the caller's pass.
use Rattle.std.specs.Prelude.{◌≡◌, ◌⊎◌, ◌≤◌, ℕ, ◌+◌, ◌^◌, true, false, [], ◌∷◌, ◌++◌, Option, Some, None, Result, Ok, Err, is_some, length, ◌<◌}
use mathlib.Core.List.{IsPrefix}
use Rattle.as4_disk.specs.declared.disk.Disk.{Ghosts as DiskMeaning}
use Rattle.as4_disk.specs.Image.{Image}
use Rattle.as4_disk.specs.Leaving.{LeavesOnly, Quiet}
use Rattle.as4_flow.specs.Flow.{Rose, Told}
use Rattle.msh_recovery.specs.Opens.{KeepsEnd}
use Rattle.exchange_model.specs.Apply.{applied}
use Rattle.exchange_model.specs.End.{End}
use Rattle.exchange_model.specs.declared.outcome.Outcome.{Outcome}
use Rattle.exchange_model.specs.declared.event.Event.{Event}
use Rattle.exchange_model.specs.declared.reply.Reply.{Reply}
use Rattle.exchange_model.specs.declared.reply.Reply.TheVariants as reply
use Rattle.exchange_model.specs.declared.what.What.TheVariants as what
use Rattle.office.specs.Calls.{LeadsWhere, stop_of}
use Rattle.office.specs.Left.{IsLeft, OpensBeforeOrAfter}
use Rattle.office.specs.Observed.{StepWhere}
use Rattle.office.specs.Preparing.{OnlyReads}
use Rattle.office.specs.Recording.{IsRecorded}
use Rattle.office.specs.State.{OfficeState}
use Rattle.office.specs.declared.call.Call.{Call}
use Rattle.office.specs.declared.call.Call.TheVariants.{Done, Stop}
use Rattle.office.specs.declared.fault.OfficeFault.{OfficeFault}
use Rattle.office.specs.declared.fault.OfficeFault.TheVariants.{Disk, NoMemory, Stopped, Worn}
use Rattle.pass_book.specs.States.{PassState}

module _ {D : Type 0} (old new : OfficeState D) (pass_old pass_new : PassState Call) where
  -- the call is entered as the last of all, which the pass has then seen, and it counts for the pass
  pub record Enters (call : Call) : Type 0 where
    pub room : length old.list < 2 ^ 63
    pub seen : IsPrefix pass_old.list old.list
    pub list : new.list ≡ old.list ++ call ∷ []
    pub whole : pass_new.list ≡ new.list
    pub share : pass_new.share ≡ pass_old.share + 1

  -- nothing is entered, and the end is as before
  pub record EntersNothing : Type 0 where
    pub list : new.list ≡ old.list
    pub end : new.end ≡ old.end
    pub pass : pass_new ≡ pass_old

  -- there is no room for an entry: nothing is done, and the pass has seen all of them
  pub record FindsItWorn : Type 0 where
    pub full : length old.list ≡ 2 ^ 63
    pub seen : IsPrefix pass_old.list old.list
    pub list : new.list ≡ old.list
    pub end : new.end ≡ old.end
    pub disk : new.disk ≡ old.disk
    pub pass : pass_new ≡ record pass_old { list = old.list }

  -- the office stands still, and the disk isn't touched
  pub record StandsStill (before after : ℕ) : Type 0 where
    pub stopped : stop_of old.list ≡ Some (record { before = before; after = after })
    pub end : new.end ≡ old.end
    pub disk : new.disk ≡ old.disk

  -- the disk failed: the end is as before, and from now on the office stands still
  pub record Stops (M : DiskMeaning D) (event : Option Event) (before after : ℕ) : Type 0 where
    pub going : stop_of old.list ≡ None
    pub end : new.end ≡ old.end
    pub old_count : before ≡ M.fault_count old.disk
    pub new_count : after ≡ M.fault_count new.disk
    pub rose : Rose before after
    pub entered : Enters (Stop event (record { before = before; after = after }))

-- what every call keeps, whatever it answers
pub record Keeps {D : Type 0} (M : DiskMeaning D) (old new : OfficeState D) (pass_old pass_new : PassState Call) : Type 0 where
  pub modes : new.modes ≡ old.modes
  pub book : new.book ≡ old.book
  pub pass_book : pass_new.book ≡ pass_old.book
  pub stake : pass_new.stake ≡ pass_old.stake
  -- the calls lead to the end, from wherever they led to it before
  pub legal : (start : End) → LeadsWhere (is_some (M.seen old.disk)) old.modes start old.list old.end
      → LeadsWhere (is_some (M.seen old.disk)) old.modes start new.list new.end
  -- without a fault among the calls each crash leaves the end, and with one what that call may have left
  pub safe : stop_of new.list ≡ None → KeepsEnd M new.disk new.end
  pub left : Told (M.seen new.disk) (λ _. (c : Image) → M.may_leave new.disk c → IsLeft new.modes new.end new.list c)
  pub tells : is_some (M.seen new.disk) ≡ is_some (M.seen old.disk)
  -- and without one no call on the disk failed
  pub calm : stop_of new.list ≡ None → M.fault_count new.disk ≡ M.fault_count old.disk
  pub counted : M.fault_count old.disk ≤ M.fault_count new.disk

module _ {D : Type 0} (M : DiskMeaning D) (old new : OfficeState D) (pass_old pass_new : PassState Call) where
  -- the event's step is made, its record is on the disk, and its reply is answered
  pub record Replies (event : Event) (r : Reply) : Type 0 where
    pub going : stop_of old.list ≡ None
    pub outcome : Outcome
    pub step : StepWhere (is_some (M.seen old.disk)) old.modes old.end event outcome
    pub reply : r ≡ outcome.reply
    pub end : new.end ≡ applied outcome.effects old.end
    pub recorded : (disk : D) × OnlyReads M event old.disk disk × IsRecorded M disk new.disk old.end outcome true
    pub kept : KeepsEnd M new.disk new.end
    pub entered : Enters old new pass_old pass_new (Done event r)

  -- the record of the event's step wasn't written whole
  pub record FailsToRecord (event : Event) : Type 0 where
    pub outcome : Outcome
    pub step : StepWhere (is_some (M.seen old.disk)) old.modes old.end event outcome
    pub recorded : (disk : D) × OnlyReads M event old.disk disk × IsRecorded M disk new.disk old.end outcome false

  -- the payloads of a message weren't read
  pub record FailsToRead (event : Event) : Type 0 where
    pub number : ℕ
    pub asked : event.what ≡ what.Read number
    pub quiet : Quiet M old.disk new.disk
    pub safe : KeepsEnd M new.disk new.end

  -- the disk failed
  pub record StopsAt (event : Event) (before after : ℕ) : Type 0 where
    pub stops : Stops old new pass_old pass_new M (Some event) before after
    pub cause : FailsToRecord event ⊎ FailsToRead event

  -- what is answered to an event, by cases on the answer
  abbrev pub Steps : Event → Result Reply OfficeFault → Type 0
  Steps event (Ok r) = Replies event r
  Steps event (Err (Disk before after)) = StopsAt event before after
  Steps event (Err (Stopped before after)) = StandsStill old new pass_old pass_new before after × Enters old new pass_old pass_new (Done event (reply.Stopped before after))
  Steps event (Err Worn) = FindsItWorn old new pass_old pass_new
  Steps event (Err NoMemory) = EntersNothing old new pass_old pass_new × OnlyReads M event old.disk new.disk

  -- What becomes of an event. While it is handled a crash leaves the end before its step, or the one behind it.
  pub record Handles (event : Event) (result : Result Reply OfficeFault) : Type 0 where
    pub answer : Steps event result
    pub any_moment : stop_of old.list ≡ None
        → Told (M.seen old.disk) (λ _. LeavesOnly M old.disk new.disk (OpensBeforeOrAfter old.modes old.end event))
    pub keeps : Keeps M old new pass_old pass_new

-- a tick to this moment, as the office makes it
abbrev pub IsTickTo : ℕ → Event → Type 0
IsTickTo stamp event = (event.what ≡ what.Tick) × (event.stamp ≡ stamp) × (event.nonce ≡ 0)

-- a confirmation of the messages up to this one
abbrev pub IsConfirmationOf : ℕ → Event → Type 0
IsConfirmationOf upto event = (event.what ≡ what.Confirm upto) × (event.stamp ≡ 0) × (event.nonce ≡ 0)
