-- An office under a lock. Each call finds it as the other callers left it, so a clause says that some office was found
-- there, of this opening, and that its calls lead from the opening's endpoint to its own.
use Rattle.std.specs.Prelude.{◌≡◌, ℕ, Bool, List, Option, Result, Ok, Err, is_some}
use Rattle.as4_disk.specs.declared.disk.Disk.{Ghosts as DiskMeaning}
use Rattle.exchange_model.specs.End.{End}
use Rattle.exchange_model.specs.declared.event.Event.{Event}
use Rattle.exchange_model.specs.declared.reply.Reply.{Reply}
use Rattle.exchange_model.specs.declared.reply.Reply.TheVariants as reply
use Rattle.office.specs.Calls.{LeadsWhere}
use Rattle.office.specs.State.{OfficeState}
use Rattle.office.specs.Steps.{Handles, IsTickTo}
use Rattle.office.specs.declared.call.Call.{Call}
use Rattle.office.specs.declared.fault.OfficeFault.{OfficeFault}
use Rattle.office.specs.declared.fault.OfficeFault.TheVariants as fault
use Rattle.pass_book.specs.States.{PassState}
use Rattle.sessions.specs.Answering.{Tells}
use Rattle.sessions.specs.Sending.{TellsSending}
use Rattle.sessions.specs.declared.ended.Ended.{Ended}
use Rattle.sessions.specs.declared.naming.Opening.{Ghosts as OpeningMeaning}
use Rattle.sessions.specs.declared.rounds.RoundEnd.{RoundEnd}
use Rattle.sessions.specs.declared.rounds.RoundEnd.TheVariants as round
use Rattle.sessions.specs.declared.sending.Sending.{Sending}

-- the calls lead from the endpoint of the opening to some endpoint
abbrev pub IsLegal : {J : Type 0} → OpeningMeaning J → List Call → Type 0
IsLegal N calls = (end : End) × LeadsWhere N.observable N.modes N.start calls end

module _ {D J : Type 0} (M : DiskMeaning D) (N : OpeningMeaning J) where
  -- the office is of this opening, and its calls lead from the opening's endpoint to its own
  pub record IsOpened (office : OfficeState D) : Type 0 where
    pub book : office.book ≡ N.book
    pub modes : office.modes ≡ N.modes
    pub observable : is_some (M.seen office.disk) ≡ N.observable
    pub legal : LeadsWhere N.observable N.modes N.start office.list office.end

  -- an office of this opening was found, handled the event with this result, and was left
  pub record StepsUnder (pass_old pass_new : PassState Call) (event : Event) (result : Result Reply OfficeFault) : Type 0 where
    pub found : OfficeState D
    pub left : OfficeState D
    pub before : IsOpened found
    pub after : IsOpened left
    pub handles : Handles M found left pass_old pass_new event result

  -- the event was handled, with this end of the session and this response
  pub record AnswersUnder (pass_old pass_new : PassState Call) (kept : Bool) (event : Event) (end : Ended) (bytes : List ℕ) : Type 0 where
    pub result : Result Reply OfficeFault
    pub steps : StepsUnder pass_old pass_new event result
    pub tells : Tells kept result end bytes

  -- the clock was set to this moment
  pub record TicksUnder (pass_old pass_new : PassState Call) (moment : ℕ) (result : Result Reply OfficeFault) : Type 0 where
    pub event : Event
    pub tick : IsTickTo moment event
    pub steps : StepsUnder pass_old pass_new event result

  -- the event was handled, and the reply comes with the request that carries its message
  pub record SendsUnder (back : Option (List ℕ)) (pass_old pass_new : PassState Call) (event : Event) (sending : Result Sending OfficeFault) : Type 0 where
    pub result : Result Reply OfficeFault
    pub steps : StepsUnder pass_old pass_new event result
    pub tells : TellsSending back result sending

-- how a round ends that set the clock
abbrev pub TellsTick : Result Reply OfficeFault → RoundEnd → Type 0
TellsTick (Ok (reply.Full size need)) end = end ≡ round.Full size need
TellsTick (Ok r) end = end ≡ round.Done
TellsTick (Err (fault.Disk before after)) end = end ≡ round.DiskFault before after
TellsTick (Err (fault.Stopped before after)) end = end ≡ round.Stopped before after
TellsTick (Err fault.Worn) end = end ≡ round.Worn
TellsTick (Err fault.NoMemory) end = ⊥
