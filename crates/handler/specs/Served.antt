-- What a handler has done that served, over an observable host.
use Rattle.std.specs.Prelude.{◌≡◌, ◌⊎◌, ◌≤◌, ℕ, true, List, ◌++◌, Option, Some, Contains, IsSome, length, min}
use Rattle.std.specs.List.{AllByRecursion}
use Rattle.as4_disk.specs.Image.{Image}
use Rattle.as4_doors.specs.Asking.{AsksFor}
use Rattle.as4_doors.specs.declared.door.DoorKind.{DoorKind}
use Rattle.as4_doors.specs.declared.door.DoorKind.TheVariants as door
use Rattle.as4_host.specs.Counts.{HasNotRisen}
use Rattle.as4_host.specs.declared.host.Host.{Ghosts as HostMeaning}
use Rattle.as4_http.specs.Requests.{BeginsRequest}
use Rattle.as4_http.specs.declared.message.Request.{Request}
use Rattle.as4_values.specs.declared.header.UserHeader.{UserHeader}
use Rattle.as4_values.specs.declared.message.Message.TheVariants as message
use Rattle.as4_values.specs.declared.payload.Payload.{Payload}
use Rattle.exchange_model.specs.End.{End}
use Rattle.exchange_model.specs.Questions.{is_known}
use Rattle.exchange_model.specs.declared.event.Event.{Event}
use Rattle.exchange_model.specs.declared.reply.Reply.TheVariants.{Full}
use Rattle.exchange_model.specs.declared.what.What.{What}
use Rattle.exchange_model.specs.declared.what.What.TheVariants.{Came}
use Rattle.handler.specs.Stores.{AreModesOf, BeginsWith, Stores}
use Rattle.handler.specs.Working.{BeginWithFold}
use Rattle.handler.specs.declared.setup.Setup.{Setup}
use Rattle.mode_values.specs.ModeMatch.{mode_of}
use Rattle.mode_values.specs.declared.mode.Mode.{Mode}
use Rattle.msh_recovery.specs.Opens.{IsAt}
use Rattle.office.specs.Calls.{Leads}
use Rattle.office.specs.Folds.{CanShorten}
use Rattle.office.specs.declared.call.Call.{Call}
use Rattle.office.specs.declared.call.Call.TheVariants.{Done}
use Rattle.workers.specs.Bounds.{IsEntered}

-- The first guests of a door were taken, at least as many as there are turns for; and each who asks for something has its
-- call.
pub record TakesGuests (kind : DoorKind) (turns : ℕ) (calls : List Call) (all : List (List ℕ)) (after : Option (List (List ℕ))) : Type 0 where
  pub taken : List (List ℕ)
  pub left : List (List ℕ)
  pub were : all ≡ taken ++ left
  pub are : after ≡ Some left
  pub enough : min turns (length all) ≤ length taken
  pub entered : AllByRecursion (IsEntered kind calls) taken

-- this message was answered by a call that says that the journal is full
pub record WasFull (what : What) (calls : List Call) : Type 0 where
  pub event : Event
  pub size : ℕ
  pub need : ℕ
  pub entered : Contains calls (Done event (Full size need))
  pub asked : event.what ≡ what

-- if a partner sent a user message that one of the modes is for, it is in the inbox, unless the journal was full
abbrev pub IsDelivered : List Mode → List Call → End → List ℕ → Type 0
IsDelivered modes calls end stream =
    (request : Request) (rest : List ℕ) (header : UserHeader) (payloads : List Payload)
    → BeginsRequest stream request rest → AsksFor door.Peer request (Came (message.User header payloads)) → IsSome (mode_of modes header)
    → (is_known header.id end.inbox ≡ true) ⊎ WasFull (Came (message.User header payloads)) calls

module _ {H Store Door Dialer Time Dice DoorIn DoorOut DialerIn DialerOut : Type 0} (M : HostMeaning H Store Door Dialer Time Dice DoorIn DoorOut DialerIn DialerOut) where
  -- no count has risen
  pub record IsQuiet (old new : H) : Type 0 where
    pub faults : HasNotRisen (M.fault_count old) (M.fault_count new)
    pub reads : HasNotRisen (M.reads old) (M.reads new)
    pub writes : HasNotRisen (M.writes old) (M.writes new)

  -- Guests of both doors were served by the calls of one office, which lead from the endpoint that the store had to the one
  -- that it has now.
  pub record Delivers (setup : Setup) (old new : H) (peers locals : List (List ℕ)) (before : Image) : Type 0 where
    pub modes : List Mode
    pub modes_are : AreModesOf (M.file old setup.modes.now) modes
    pub start : End
    pub begins : BeginsWith before start
    pub calls : List Call
    pub end : End
    pub leads : Leads modes start calls end
    pub compacted : CanShorten start → BeginWithFold calls
    pub after : Image
    pub stored : Stores M setup.journal.now new after
    pub is : IsAt after end
    pub at_peer : TakesGuests door.Peer setup.turns calls peers (M.guests new setup.peer.now)
    pub at_local : TakesGuests door.Local setup.turns calls locals (M.guests new setup.local.now)
    pub delivered : AllByRecursion (IsDelivered modes calls end) at_peer.taken
