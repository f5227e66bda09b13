-- What a request asks for at a door.
use Rattle.std.specs.Prelude.{◌≡◌, [], Result, Ok, Err, unwrap_or}
use Rattle.as4_values.specs.declared.message.Message.{Message}
use Rattle.as4_http.specs.declared.message.Method.TheVariants.{Get, Post}
use Rattle.as4_http.specs.declared.message.Request.{Request}
use Rattle.as4_message.specs.Meaning.{Copies, Means, ReceivedValue}
use Rattle.as4_message.specs.declared.received.Refusal.{Refusal}
use Rattle.exchange_model.specs.declared.what.What.{What}
use Rattle.exchange_model.specs.declared.what.What.TheVariants.{Came}
use Rattle.as4_doors.specs.declared.door.DoorKind.{DoorKind}
use Rattle.as4_doors.specs.declared.door.DoorKind.TheVariants.{Peer, Local}
use Rattle.as4_doors.specs.declared.door.DoorRefusal.{DoorRefusal}
use Rattle.as4_doors.specs.declared.door.DoorRefusal.TheVariants as refusal
use Rattle.as4_doors.specs.Targets.{AsksLocally}

-- a POST to the peer's door, on any target, with this meaning; without a media text, the media text is empty
abbrev pub PostMeans : Request → Result Message Refusal → Type 0
PostMeans request meant = (request.method ≡ Post) × Copies (Means (unwrap_or request.media []) request.body) meant

-- the request asks for this
abbrev pub AsksFor : DoorKind → Request → What → Type 0
AsksFor Peer request (Came message) = PostMeans request (Ok message)
AsksFor Peer request what = ⊥
AsksFor Local request what = AsksLocally request what

-- the request is refused with an error signal
abbrev pub IsRefusedBy : DoorKind → Request → Refusal → Type 0
IsRefusedBy Peer request refusal = PostMeans request (Err refusal)
IsRefusedBy Local request refusal = ⊥

-- the request is none of this door
abbrev pub IsStranger : DoorKind → Request → Type 0
IsStranger Peer request = request.method ≡ Get
IsStranger Local request = (what : What) → ¬ (AsksLocally request what)

-- the result for a request; nothing is said where memory ran out
abbrev pub Asks : DoorKind → Request → Result What DoorRefusal → Type 0
Asks door request (Ok what) = AsksFor door request what
Asks door request (Err refusal.Stranger) = IsStranger door request
Asks door request (Err (refusal.Refused by)) = IsRefusedBy door request by
Asks door request (Err refusal.NoMemory) = Unit {0}

-- the result for a message with this meaning, that came to the peer's door
abbrev pub MeansWhat : (Result ReceivedValue Refusal → Type 0) → Result What DoorRefusal → Type 0
MeansWhat meant (Ok (Came message)) = Copies meant (Ok message)
MeansWhat meant (Ok what) = ⊥
MeansWhat meant (Err refusal.Stranger) = ⊥
MeansWhat meant (Err (refusal.Refused by)) = Copies meant (Err by)
MeansWhat meant (Err refusal.NoMemory) = Unit {0}
