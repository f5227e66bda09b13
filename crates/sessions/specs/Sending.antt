-- The request that carries the message of a reply to the partner.
use Rattle.std.specs.Prelude.{◌≡◌, ℕ, List, Option, Some, None, Result, Ok, Err}
use Rattle.as4_disk.specs.declared.disk.Disk.{Ghosts as DiskMeaning}
use Rattle.as4_http.specs.Written.{request_text}
use Rattle.as4_values.specs.declared.message.Message.{Message}
use Rattle.message_model.specs.Wire.{IsWire}
use Rattle.exchange_model.specs.declared.event.Event.{Event}
use Rattle.exchange_model.specs.declared.reply.Reply.{Reply}
use Rattle.exchange_model.specs.declared.reply.Reply.TheVariants as reply
use Rattle.office.specs.State.{OfficeState}
use Rattle.office.specs.Steps.{Handles}
use Rattle.office.specs.declared.call.Call.{Call}
use Rattle.office.specs.declared.fault.OfficeFault.{OfficeFault}
use Rattle.pass_book.specs.States.{PassState}
use Rattle.sessions.specs.declared.sending.Sending.{Sending}

-- the request that carries a message to an address
pub record IsRequestTo (address : List ℕ) (message : Message) (text : List ℕ) : Type 0 where
  pub media : List ℕ
  pub body : List ℕ
  pub wire : IsWire message media body
  pub written : text ≡ request_text address (Some media) body

-- an answer goes back to this address, if there is one
abbrev pub IsAnswerTo : Option (List ℕ) → Message → Option (List ℕ) → Type 0
IsAnswerTo None message request = request ≡ None
IsAnswerTo (Some address) message None = ⊥
IsAnswerTo (Some address) message (Some text) = IsRequestTo address message text

-- the request of a reply; a reply that sends nothing has none
abbrev pub IsRequestOf : Option (List ℕ) → Reply → Option (List ℕ) → Type 0
IsRequestOf back (reply.Push address message) (Some text) = IsRequestTo address message text
IsRequestOf back (reply.Push address message) None = ⊥
IsRequestOf back (reply.Request address message) (Some text) = IsRequestTo address message text
IsRequestOf back (reply.Request address message) None = ⊥
IsRequestOf back (reply.Answer message) request = IsAnswerTo back message request
IsRequestOf back r request = request ≡ None

-- a reply comes with its request, and a fault with none
abbrev pub TellsSending : Option (List ℕ) → Result Reply OfficeFault → Result Sending OfficeFault → Type 0
TellsSending back (Ok r) (Ok sending) = (sending.reply ≡ r) × IsRequestOf back r sending.request
TellsSending back (Ok r) (Err fault) = ⊥
TellsSending back (Err fault) (Ok sending) = ⊥
TellsSending back (Err fault) (Err told) = told ≡ fault

-- an office handled an event, and its reply comes with its request
pub record Sends {D : Type 0} (M : DiskMeaning D) (back : Option (List ℕ)) (old new : OfficeState D) (pass_old pass_new : PassState Call) (event : Event) (sending : Result Sending OfficeFault) : Type 0 where
  pub result : Result Reply OfficeFault
  pub handles : Handles M old new pass_old pass_new event result
  pub tells : TellsSending back result sending
