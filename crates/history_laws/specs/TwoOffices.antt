-- Two offices and the network between them. The network may lose, repeat and reorder messages: each message that an office
-- ever sent may arrive at the other never, once or often, at any time. The power of each may fail at any moment.
use Rattle.std.specs.Prelude.{◌≡◌, ◌⊎◌, List, [], ◌∷◌, ◌++◌, Option, Some, None, true}
use Rattle.as4_disk.specs.Image.{Image}
use Rattle.as4_values.specs.declared.message.Message.{Message}
use Rattle.mode_values.specs.declared.mode.Mode.{Mode}
use Rattle.msh_recovery.specs.Opens.{ReadsAs}
use Rattle.exchange_model.specs.End.{End, empty_end}
use Rattle.exchange_model.specs.World.{IsHeard, Speaker, World, sends}
use Rattle.exchange_model.specs.declared.event.Event.{Event}
use Rattle.office.specs.Calls.{stop_of}
use Rattle.office.specs.Left.{IsLeft}
use Rattle.office.specs.declared.call.Call.{Call}
use Rattle.office.specs.declared.call.Call.TheVariants.{Done, Folded, Stop}
use Rattle.history_laws.specs.Following.{GoesOn}
use Rattle.history_laws.specs.Inside.{LeavesInside}

-- an office: its modes, its endpoint's state, its calls since it was opened, and each message that it ever sent
pub record Side : Type 0 where
  pub modes : List Mode
  pub end : End
  pub calls : List Call
  pub said : List Message

pub record Offices : Type 0 where
  pub left : Side
  pub right : Side

-- an office that is opened for the first time, with these modes
abbrev pub new_side : List Mode → Side
new_side modes = record { modes = modes; end = empty_end; calls = []; said = [] }

abbrev pub new_offices : List Mode → List Mode → Offices
new_offices left right = record { left = new_side left; right = new_side right }

-- the message that an event brings is one of these
abbrev pub IsHeardIn : List Message → Option Event → Type 0
IsHeardIn heard None = Unit {0}
IsHeardIn heard (Some event) = IsHeard heard event.what

-- and so is the message that a call received
abbrev pub IsHeardBy : List Message → Call → Type 0
IsHeardBy heard (Done event r) = IsHeardIn heard (Some event)
IsHeardBy heard (Folded size) = IsHeardIn heard None
IsHeardBy heard (Stop event halt) = IsHeardIn heard event

-- the messages that a call sends
abbrev pub sent_by : Call → List Message
sent_by (Done event r) = sends r
sent_by other = []

-- An office enters a call. What it receives is one of the messages that the other office sent.
pub record EntersCall (call : Call) (heard : List Message) (old new : Side) : Type 0 where
  pub goes : GoesOn true old.modes (stop_of old.calls) old.end (call ∷ []) new.end
  pub received : IsHeardBy heard call
  pub modes : new.modes ≡ old.modes
  pub calls : new.calls ≡ old.calls ++ call ∷ []
  pub said : new.said ≡ old.said ++ sent_by call

-- An office enters these calls, one after another. What they receive was sent by the other office before.
abbrev pub EntersAll : List Call → List Message → Side → Side → Type 0
EntersAll [] heard old new = old ≡ new
EntersAll (call ∷ calls) heard old new = (next : Side) × EntersCall call heard old next × EntersAll calls heard next new

-- The power fails inside a call, and leaves this disk.
pub record FailsInside (heard : List Message) (side : Side) (image : Image) : Type 0 where
  pub going : stop_of side.calls ≡ None
  pub event : Option Event
  pub received : IsHeardIn heard event
  pub left : LeavesInside side.modes side.end event image

-- The power fails and leaves this disk: between two calls, after a fault, or inside a call. Then the office is opened again,
-- with any modes.
pub record IsReopened (heard : List Message) (image : Image) (old new : Side) : Type 0 where
  pub left : IsLeft old.modes old.end old.calls image ⊎ FailsInside heard old image
  pub reads : ReadsAs image new.end
  pub calls : new.calls ≡ []
  pub said : new.said ≡ old.said

-- an office that receives these messages takes a turn
abbrev pub TakesTurn : List Message → Side → Side → Type 0
TakesTurn heard old new = ((call : Call) × EntersCall call heard old new) ⊎ ((image : Image) × IsReopened heard image old new)

-- one of the two takes a turn
abbrev pub IsNext : Offices → Offices → Type 0
IsNext old new =
    (TakesTurn old.right.said old.left new.left × (new.right ≡ old.right))
    ⊎ (TakesTurn old.left.said old.right new.right × (new.left ≡ old.left))

-- from the first to the last, through each of these
abbrev pub Runs : List Offices → Offices → Offices → Type 0
Runs [] first last = first ≡ last
Runs (next ∷ later) first last = IsNext first next × Runs later next last

-- the two endpoints, with what they sent
abbrev pub speaker_of : Side → Speaker
speaker_of side = record { end = side.end; said = side.said }

abbrev pub world_of : Offices → World
world_of offices = record { left = speaker_of offices.left; right = speaker_of offices.right }
