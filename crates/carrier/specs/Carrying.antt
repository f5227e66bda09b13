-- How a message is carried to an endpoint, and its reply back.
use Rattle.std.specs.Prelude.{◌≡◌, ◌⊎◌, ℕ, Bool, false, List, Some, Result, Ok, Err}
use Rattle.answer_laws.specs.ReadBack.{IsAnswer, IsReadAsItself}
use Rattle.as4_doors.specs.declared.door.DoorKind.TheVariants.{Peer}
use Rattle.as4_http.specs.ReadBack.{IsWithinLimits}
use Rattle.as4_http.specs.Requests.{BeginsRequest}
use Rattle.as4_http.specs.Written.{request_text}
use Rattle.as4_http.specs.declared.message.Request.{Request}
use Rattle.as4_values.specs.declared.message.Message.{Message}
use Rattle.drill_texts.specs.Modes.{drill_address}
use Rattle.exchange_model.specs.declared.event.Event.{Event}
use Rattle.exchange_model.specs.declared.reply.Reply.{Reply}
use Rattle.exchange_model.specs.declared.reply.Reply.TheVariants as reply
use Rattle.message_model.specs.Wire.{IsWire}
use Rattle.office.specs.declared.fault.OfficeFault.{OfficeFault}
use Rattle.office.specs.declared.fault.OfficeFault.TheVariants as fault
use Rattle.sessions.specs.Answering.{Tells}
use Rattle.sessions.specs.Sessions.{IsEventOf}
use Rattle.sessions.specs.declared.ended.Ended.{Ended}
use Rattle.sessions.specs.declared.ended.Ended.TheVariants as ended

-- the request that carries a message, within the limits of HTTP
pub record IsRequestOf (message : Message) (text : List ℕ) : Type 0 where
  pub media : List ℕ
  pub body : List ℕ
  pub wire : IsWire message media body
  pub written : text ≡ request_text drill_address (Some media) body
  pub within : IsWithinLimits text body

-- a session that ends so has no reply of the endpoint, and no fault of its disk
abbrev pub gives_up : Ended → Type 0
gives_up ended.Answered = ⊥
gives_up (ended.DiskFault before after) = ⊥
gives_up (ended.Stopped before after) = ⊥
gives_up (ended.Full size need) = ⊥
gives_up ended.Worn = ⊥
gives_up other = Unit {0}

-- the event that a request asks for, at this moment and with this nonce, was answered by a session that ends so, with this
-- response
pub record HandlesRequest (Answered : Bool → Event → Ended → List ℕ → Type 0) (text : List ℕ) (moment nonce : ℕ) (end : Ended) (bytes : List ℕ) : Type 0 where
  pub request : Request
  pub rest : List ℕ
  pub begins : BeginsRequest text request rest
  pub event : Event
  pub is : IsEventOf Peer request moment nonce event
  pub answered : Answered false event end bytes

-- a session over the bytes of a request
abbrev pub IsServed : (Bool → Event → Ended → List ℕ → Type 0) → List ℕ → ℕ → ℕ → Ended → List ℕ → Type 0
IsServed Answered text moment nonce end bytes = gives_up end ⊎ HandlesRequest Answered text moment nonce end bytes

-- a reply that has a response of its own: an answer that is read as itself, or none
abbrev pub IsReply : Reply → Type 0
IsReply (reply.Answer m) = IsReadAsItself m
IsReply reply.Quiet = Unit {0}
IsReply other = ⊥

-- the response tells this result
abbrev pub IsToldBy : Result Reply OfficeFault → Type 0
IsToldBy (Ok r) = IsAnswer r
IsToldBy (Err fault) = Unit {0}

-- a session tells what becomes of a message: its request carries the message, and its response tells the result
pub record GoesInBytes (Answered : Bool → Event → Ended → List ℕ → Type 0) (message : Message) (moment nonce : ℕ) (result : Result Reply OfficeFault) : Type 0 where
  pub request : List ℕ
  pub carries : IsRequestOf message request
  pub end : Ended
  pub response : List ℕ
  pub handles : HandlesRequest Answered request moment nonce end response
  pub tells : Tells false result end response

-- P holds, unless memory ran out
abbrev pub IsCarried : Result Reply OfficeFault → Type 0 → Type 0
IsCarried (Err fault.NoMemory) P = Unit {0}
IsCarried result P = P
