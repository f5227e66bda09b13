-- What an office holds for good.
use Rattle.std.specs.Prelude.{◌≡◌, ◌≤◌, ℕ, List, [], ◌∷◌, Option, Some, slice_get}
use Rattle.as4_values.specs.declared.header.UserHeader.{UserHeader}
use Rattle.as4_values.specs.declared.message.Message.TheVariants as message
use Rattle.as4_values.specs.declared.payload.Payload.{Payload}
use Rattle.as4_values.specs.declared.signal.Signal.{Signal}
use Rattle.as4_values.specs.declared.signal_body.SignalBody.TheVariants as body
use Rattle.exchange_model.specs.End.{End}
use Rattle.exchange_model.specs.declared.event.Event.{Event}
use Rattle.exchange_model.specs.declared.inbox_entry.InboxEntry.{InboxEntry}
use Rattle.exchange_model.specs.declared.reply.Reply.{Reply}
use Rattle.exchange_model.specs.declared.reply.Reply.TheVariants as reply
use Rattle.exchange_model.specs.declared.what.What.TheVariants.{Came}
use Rattle.office.specs.declared.call.Call.{Call}
use Rattle.office.specs.declared.call.Call.TheVariants.{Done, Folded, Stop}

-- a user message was received, and answered with a receipt
pub record IsReceipted (header : UserHeader) (payloads : List Payload) (event : Event) (r : Reply) : Type 0 where
  pub came : event.what ≡ Came (message.User header payloads)
  pub signal : Signal
  pub answered : r ≡ reply.Answer (message.Signal signal)
  pub copy : Option UserHeader
  pub receipt : signal.body ≡ body.Receipt copy

-- the inbox has the message at this place, with its payloads until it is confirmed
pub record IsHeldAt (n : ℕ) (header : UserHeader) (payloads : List Payload) (end : End) : Type 0 where
  pub entry : InboxEntry
  pub there : slice_get end.inbox n ≡ Some entry
  pub same : entry.header ≡ header
  pub contents : end.confirmed ≤ n → entry.payloads ≡ payloads

-- the size that the last of these compactions left, or, without one, this size
abbrev pub size_left : ℕ → List Call → ℕ
size_left size [] = size
size_left size (Done event r ∷ calls) = size_left size calls
size_left size (Folded left ∷ calls) = size_left left calls
size_left size (Stop event halt ∷ calls) = size_left size calls
