-- What a call leaves at each moment, as a `Stop` of that call.
use Rattle.std.proofs.Common.{◌≡◌, ℕ, [], ◌∷◌, ◌++◌, Option, Some, None, Result}
use Rattle.as4_disk.specs.Image.{Image}
use Rattle.as4_disk.specs.Leaving.{LeavesOnly}
use Rattle.as4_disk.specs.declared.disk.Disk.{Ghosts as DiskMeaning}
use Rattle.as4_disk.specs.declared.fault_counts.FaultCounts.{FaultCounts}
use Rattle.as4_disk.proofs.RunLemmas.{weaken}
use Rattle.as4_flow.specs.Flow.{Told}
use Rattle.exchange_model.specs.declared.event.Event.{Event}
use Rattle.exchange_model.specs.declared.reply.Reply.{Reply}
use Rattle.office.specs.Calls.{stop_of}
use Rattle.office.specs.Folds.{Checkpoints}
use Rattle.office.specs.Left.{IsLeft}
use Rattle.office.specs.State.{OfficeState}
use Rattle.office.specs.Steps.{Handles}
use Rattle.office.specs.declared.call.Call.{Call}
use Rattle.office.specs.declared.call.Call.TheVariants.{Stop}
use Rattle.office.specs.declared.fault.OfficeFault.{OfficeFault}
use Rattle.pass_book.specs.States.{PassState}
use Rattle.history_laws.specs.Inside.{LeavesInside}
use Rattle.history_laws.proofs.InsideLemmas.{same_left}

module _ {D : Type 0} (M : DiskMeaning D) (old new : OfficeState D) (pass_old pass_new : PassState Call) where
  leaves_stop : (event : Option Event) (halt : FaultCounts) → stop_of old.list ≡ None
      → LeavesOnly M old.disk new.disk (LeavesInside old.modes old.end event)
      → LeavesOnly M old.disk new.disk (IsLeft old.modes old.end (old.list ++ Stop event halt ∷ []))
  leaves_stop event halt going run =
      weaken M old.disk new.disk (LeavesInside old.modes old.end event) (IsLeft old.modes old.end (old.list ++ Stop event halt ∷ []))
      (λ (c : Image) left. (same_left old.modes old.list old.end event halt c going).0 left) run

  pub handles_stop : (event : Event) (result : Result Reply OfficeFault) (halt : FaultCounts) → Handles M old new pass_old pass_new event result
      → stop_of old.list ≡ None
      → Told (M.seen old.disk) (λ _. LeavesOnly M old.disk new.disk (IsLeft old.modes old.end (old.list ++ Stop (Some event) halt ∷ [])))
  handles_stop event result halt handles going image told = leaves_stop (Some event) halt going (handles.any_moment going image told)

  pub compacts_stop : (result : Result ℕ OfficeFault) (halt : FaultCounts) → Checkpoints M old new pass_old pass_new result
      → stop_of old.list ≡ None
      → Told (M.seen old.disk) (λ _. LeavesOnly M old.disk new.disk (IsLeft old.modes old.end (old.list ++ Stop None halt ∷ [])))
  compacts_stop result halt checkpoints going image told = leaves_stop None halt going (checkpoints.any_moment going image told)
