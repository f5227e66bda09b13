-- How an office answers an event, and how that is told in a response.
use Rattle.std.specs.Prelude.{◌≡◌, ℕ, Bool, List, Result, Ok, Err}
use Rattle.as4_disk.specs.declared.disk.Disk.{Ghosts as DiskMeaning}
use Rattle.as4_doors.specs.Responses.{IsResponse}
use Rattle.as4_doors.specs.WrittenText.{fixed_text}
use Rattle.as4_doors.specs.declared.written.Fixed.TheVariants.{Unavailable}
use Rattle.exchange_model.specs.declared.event.Event.{Event}
use Rattle.exchange_model.specs.declared.reply.Reply.{Reply}
use Rattle.exchange_model.specs.declared.reply.Reply.TheVariants as reply
use Rattle.office.specs.State.{OfficeState}
use Rattle.office.specs.Steps.{Handles}
use Rattle.office.specs.declared.call.Call.{Call}
use Rattle.office.specs.declared.fault.OfficeFault.{OfficeFault}
use Rattle.office.specs.declared.fault.OfficeFault.TheVariants as fault
use Rattle.pass_book.specs.States.{PassState}
use Rattle.sessions.specs.declared.ended.Ended.{Ended}
use Rattle.sessions.specs.declared.ended.Ended.TheVariants as ended

-- the response that the service is unavailable
abbrev pub unavailable : List ℕ
unavailable = fixed_text Unavailable

-- how a session ends with this reply, and its response
abbrev pub TellsReply : Bool → Reply → Ended → List ℕ → Type 0
TellsReply kept (reply.Full size need) end bytes = (end ≡ ended.Full size need) × (bytes ≡ unavailable)
TellsReply kept r end bytes = (end ≡ ended.Answered) × IsResponse kept r bytes

-- how a session ends with this result of its call, and its response
abbrev pub Tells : Bool → Result Reply OfficeFault → Ended → List ℕ → Type 0
Tells kept (Ok r) end bytes = TellsReply kept r end bytes
Tells kept (Err (fault.Disk before after)) end bytes = (end ≡ ended.DiskFault before after) × (bytes ≡ unavailable)
Tells kept (Err (fault.Stopped before after)) end bytes = (end ≡ ended.Stopped before after) × (bytes ≡ unavailable)
Tells kept (Err fault.Worn) end bytes = (end ≡ ended.Worn) × (bytes ≡ unavailable)
Tells kept (Err fault.NoMemory) end bytes = (end ≡ ended.NoMemory) × (bytes ≡ unavailable)

-- the pass is of the same opening, and has the same stakes
abbrev pub IsSamePass : PassState Call → PassState Call → Type 0
IsSamePass old new = (new.book ≡ old.book) × (new.stake ≡ old.stake)

-- an office handled an event, with this end of the session and this response
pub record Answers {D : Type 0} (M : DiskMeaning D) (old new : OfficeState D) (pass_old pass_new : PassState Call) (kept : Bool) (event : Event) (end : Ended) (bytes : List ℕ) : Type 0 where
  pub result : Result Reply OfficeFault
  pub handles : Handles M old new pass_old pass_new event result
  pub tells : Tells kept result end bytes
