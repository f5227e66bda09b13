-- Without a cause for another end a session is replied to.
use Rattle.std.proofs.Common.{◌≡◌, ◌<◌, ◌^◌, ℕ, Bool, List, [], ◌∷◌, ◌++◌, Option, Some, None, Result, Ok, Err, length, inl, inr, sym, ap, ◌∙◌, subst, arith}
use Rattle.std.specs.Option.{option_or}
use Rattle.as4_disk.specs.declared.disk.Disk.{Ghosts as DiskMeaning}
use Rattle.as4_disk.specs.declared.fault_counts.FaultCounts.{FaultCounts}
use Rattle.exchange_model.specs.declared.event.Event.{Event}
use Rattle.exchange_model.specs.declared.reply.Reply.{Reply}
use Rattle.exchange_model.specs.declared.reply.Reply.TheVariants as reply
use Rattle.office.specs.Calls.{stop_of}
use Rattle.office.specs.State.{OfficeState}
use Rattle.office.specs.Steps.{Enters, Handles}
use Rattle.office.specs.declared.call.Call.{Call}
use Rattle.office.specs.declared.call.Call.TheVariants.{Done, Stop}
use Rattle.office.specs.declared.fault.OfficeFault.{OfficeFault}
use Rattle.office.specs.declared.fault.OfficeFault.TheVariants as fault
use Rattle.pass_book.specs.States.{PassState}
use Rattle.sessions.specs.Answering.{Tells, TellsReply}
use Rattle.sessions.specs.Sessions.{IsReplied}
use Rattle.sessions.specs.declared.ended.Ended.{Ended}

replied : (kept : Bool) (r : Reply) (end : Ended) (bytes : List ℕ) → TellsReply kept r end bytes → IsReplied end
replied kept (reply.Full size need) end bytes tells = inr (inl (size, need, tells.0))
replied kept (reply.Answer message) end bytes tells = inl tells.0
replied kept reply.Quiet end bytes tells = inl tells.0
replied kept (reply.Submitted number id) end bytes tells = inl tells.0
replied kept reply.NoMode end bytes tells = inl tells.0
replied kept reply.OutboxFull end bytes tells = inl tells.0
replied kept reply.TooLarge end bytes tells = inl tells.0
replied kept (reply.Entry header payloads) end bytes tells = inl tells.0
replied kept reply.NoEntry end bytes tells = inl tells.0
replied kept reply.Gone end bytes tells = inl tells.0
replied kept (reply.Confirmed upto) end bytes tells = inl tells.0
replied kept (reply.Pending tries) end bytes tells = inl tells.0
replied kept reply.Receipted end bytes tells = inl tells.0
replied kept reply.Failed end bytes tells = inl tells.0
replied kept (reply.RefusedWith code) end bytes tells = inl tells.0
replied kept reply.Unknown end bytes tells = inl tells.0
replied kept (reply.Stopped before after) end bytes tells = inl tells.0
replied kept (reply.Ticked failed) end bytes tells = inl tells.0
replied kept (reply.Push address message) end bytes tells = inl tells.0
replied kept reply.Nothing end bytes tells = inl tells.0
replied kept (reply.Request address message) end bytes tells = inl tells.0

module _ {D : Type 0} (stop_both : (calls more : List Call) → stop_of (calls ++ more) ≡ option_or (stop_of calls) (stop_of more)) (M : DiskMeaning D) where
  -- the fault among the calls that a pass has seen, after one more was entered
  fault_seen : (old new : OfficeState D) (pass_old pass_new : PassState Call) (call : Call) → Enters old new pass_old pass_new call
      → stop_of pass_new.list ≡ option_or (stop_of old.list) (stop_of (call ∷ []))
  fault_seen old new pass_old pass_new call enters = ap stop_of (enters.whole ∙ enters.list) ∙ stop_both old.list (call ∷ [])

  some_fault : (found : Option FaultCounts) (halt : FaultCounts) (later : Option FaultCounts) → found ≡ Some halt → option_or found later ≡ None → ⊥
  some_fault found halt later is none = absurd (let wrong : option_or (Some halt) later ≡ None = subst (λ (f : Option FaultCounts). option_or f later ≡ None) is none in cc)

  pub is_replied : (old new : OfficeState D) (pass_old pass_new : PassState Call) (kept : Bool) (event : Event) (result : Result Reply OfficeFault) (end : Ended) (bytes : List ℕ)
      → Handles M old new pass_old pass_new event result → Tells kept result end bytes
      → stop_of pass_new.list ≡ None → length pass_new.list < 2 ^ 63 → IsReplied end
  is_replied old new pass_old pass_new kept event (Ok r) end bytes handles tells going room = replied kept r end bytes tells
  is_replied old new pass_old pass_new kept event (Err (fault.Disk before after)) end bytes handles tells going room =
      let seen = fault_seen old new pass_old pass_new (Stop (Some event) (record { before = before; after = after })) handles.answer.stops.entered in
      let found : option_or (stop_of old.list) (Some (record { before = before; after = after })) ≡ None = sym seen ∙ going in
      let wrong : Some (record { before = before; after = after }) ≡ None =
      subst (λ (f : Option FaultCounts). option_or f (Some (record { before = before; after = after })) ≡ None) handles.answer.stops.going found in
      absurd cc
  is_replied old new pass_old pass_new kept event (Err (fault.Stopped before after)) end bytes handles tells going room =
      let seen = fault_seen old new pass_old pass_new (Done event (reply.Stopped before after)) handles.answer.1 in
      absurd (some_fault (stop_of old.list) (record { before = before; after = after }) None handles.answer.0.stopped (sym seen ∙ going))
  is_replied old new pass_old pass_new kept event (Err fault.Worn) end bytes handles tells going room =
      let full : length pass_new.list ≡ 2 ^ 63 = ap (λ (pass : PassState Call). length pass.list) handles.answer.pass ∙ handles.answer.full in
      absurd (omega (arith, full, room))
  is_replied old new pass_old pass_new kept event (Err fault.NoMemory) end bytes handles tells going room = inr (inr tells.0)
