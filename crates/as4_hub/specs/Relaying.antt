-- What the relaying of one message answers, and what it leaves of the office and of the caller's pass.
use Rattle.std.specs.Prelude.{◌≡◌, ◌⊎◌, ℕ, List, Result, Ok, Err, length}
use Rattle.as4_disk.specs.Image.{Image}
use Rattle.as4_disk.specs.declared.disk.Disk.{Ghosts as DiskMeaning}
use Rattle.as4_values.specs.declared.header.UserHeader.{UserHeader}
use Rattle.as4_values.specs.declared.payload.Payload.{Payload}
use Rattle.exchange_model.specs.End.{End}
use Rattle.exchange_model.specs.declared.event.Event.{Event}
use Rattle.exchange_model.specs.declared.reply.Reply.{Reply}
use Rattle.exchange_model.specs.declared.reply.Reply.TheVariants as reply
use Rattle.exchange_model.specs.declared.what.What.{What}
use Rattle.exchange_model.specs.declared.what.What.TheVariants as what
use Rattle.hub_laws.specs.Chain.{loads_of}
use Rattle.hub_laws.specs.DeliveredThrough.{GoesOn}
use Rattle.msh_recovery.specs.Opens.{IsAt, IsAtWith}
use Rattle.office.specs.State.{OfficeState}
use Rattle.office.specs.Steps.{Handles}
use Rattle.office.specs.declared.call.Call.{Call}
use Rattle.office.specs.declared.fault.OfficeFault.{OfficeFault}
use Rattle.office.specs.declared.fault.OfficeFault.TheVariants as fault
use Rattle.pass_book.specs.States.{PassState}
use Rattle.as4_hub.specs.declared.ended.RelayEnd.{RelayEnd}
use Rattle.as4_hub.specs.declared.ended.RelayEnd.TheVariants as ended

-- how a fault of the office is reported
abbrev pub TellsFault : OfficeFault → RelayEnd → Type 0
TellsFault (fault.Disk before after) end = end ≡ ended.DiskFault before after
TellsFault (fault.Stopped before after) end = end ≡ ended.Stopped before after
TellsFault fault.Worn end = end ≡ ended.Worn
TellsFault fault.NoMemory end = end ≡ ended.NoMemory

-- how the reply to the submission is reported
abbrev pub TellsReply : Reply → RelayEnd → Type 0
TellsReply (reply.Submitted number id) end = end ≡ ended.Relayed number id
TellsReply reply.NoMode end = end ≡ ended.NoMode
TellsReply reply.OutboxFull end = end ≡ ended.OutboxFull
TellsReply reply.TooLarge end = end ≡ ended.TooLarge
TellsReply (reply.Full size need) end = end ≡ ended.Full size need
TellsReply other end = ⊥

-- how the answer to the submission is reported
abbrev pub TellsSecond : Result Reply OfficeFault → RelayEnd → Type 0
TellsSecond (Ok r) end = TellsReply r end
TellsSecond (Err e) end = TellsFault e end

-- the state of the endpoint is as before, unless a message was relayed
abbrev pub IsSameUnless : RelayEnd → End → End → Type 0
IsSameUnless (ended.Relayed number id) old new = Unit {0}
IsSameUnless other old new = new ≡ old

-- The disk opens to this endpoint, and a pending record leads to one to which each chain goes on from here; or it opens to
-- such an endpoint.
abbrev pub OpensOn : End → Image → Type 0
OpensOn end image = IsAtWith image end (GoesOn end) ⊎ ((next : End) × GoesOn end next × IsAt image next)

-- nothing more is done
pub record DoesNoMore {D : Type 0} (old new : OfficeState D) (pass_old pass_new : PassState Call) : Type 0 where
  pub office : new ≡ old
  pub pass : pass_new ≡ pass_old

module _ {D : Type 0} (M : DiskMeaning D) (old new : OfficeState D) (pass_old pass_new : PassState Call) where
  -- an event of this stamp and nonce is handled, with this answer
  pub record IsStepped (w : What) (stamp nonce : ℕ) (answer : Result Reply OfficeFault) : Type 0 where
    pub event : Event
    pub asked : event.what ≡ w
    pub stamped : event.stamp ≡ stamp
    pub named : event.nonce ≡ nonce
    pub handled : Handles M old new pass_old pass_new event answer

  -- the message is submitted by the mode, and the answer is reported
  pub record IsSubmitted (mode : List ℕ) (stamp nonce : ℕ) (header : UserHeader) (payloads : List Payload) (end : RelayEnd) : Type 0 where
    pub answer : Result Reply OfficeFault
    pub step : IsStepped (what.Submit mode header.conversation (loads_of payloads)) stamp nonce answer
    pub tells : TellsSecond answer end

  -- it is submitted, or memory for it runs out
  abbrev pub Submits : List ℕ → ℕ → ℕ → UserHeader → List Payload → RelayEnd → Type 0
  Submits mode stamp nonce header payloads end =
      IsSubmitted mode stamp nonce header payloads end ⊎ ((end ≡ ended.NoMemory) × DoesNoMore old new pass_old pass_new)

  -- after the answer to the `Read`: a message that was read is submitted, and else nothing more is done
  abbrev pub FollowsRead : List ℕ → ℕ → ℕ → Result Reply OfficeFault → RelayEnd → Type 0
  FollowsRead mode stamp nonce (Ok (reply.Entry header payloads)) end = Submits mode stamp nonce header payloads end
  FollowsRead mode stamp nonce (Ok reply.NoEntry) end = (end ≡ ended.Nothing) × DoesNoMore old new pass_old pass_new
  FollowsRead mode stamp nonce (Ok reply.Gone) end = (end ≡ ended.Gone) × DoesNoMore old new pass_old pass_new
  FollowsRead mode stamp nonce (Ok other) end = ⊥
  FollowsRead mode stamp nonce (Err e) end = TellsFault e end × DoesNoMore old new pass_old pass_new

-- the message whose place is the number of submissions is read, and what was read is submitted
pub record RelaysOnwards {D : Type 0} (M : DiskMeaning D) (old new : OfficeState D) (pass_old pass_new : PassState Call) (mode : List ℕ) (stamp nonce : ℕ) (end : RelayEnd) : Type 0 where
  pub middle : OfficeState D
  pub pass_middle : PassState Call
  pub answer : Result Reply OfficeFault
  pub read : IsStepped M old middle pass_old pass_middle (what.Read (length old.end.sent)) stamp nonce answer
  pub rest : FollowsRead M middle new pass_middle pass_new mode stamp nonce answer end
