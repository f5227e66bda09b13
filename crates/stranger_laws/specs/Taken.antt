-- How an endpoint takes a user message that it has a mode for (AS4 Profile, section 3.2, on receipts and duplicates).
use Rattle.std.specs.Prelude.{◌≡◌, List, [], ◌∷◌, ◌++◌, Some, true, false}
use Rattle.as4_codes.specs.Signals.{IsErrorSignalOf}
use Rattle.as4_values.specs.declared.header.UserHeader.{UserHeader}
use Rattle.as4_values.specs.declared.message.Message.TheVariants as message
use Rattle.as4_values.specs.declared.payload.Payload.{Payload}
use Rattle.as4_values.specs.declared.signal.Signal.{Signal}
use Rattle.as4_values.specs.declared.signal_body.SignalBody.TheVariants as body
use Rattle.exchange_model.specs.End.{End}
use Rattle.exchange_model.specs.Questions.{is_known}
use Rattle.exchange_model.specs.World.{sends}
use Rattle.exchange_model.specs.declared.event.Event.{Event}
use Rattle.exchange_model.specs.declared.outcome.Outcome.{Outcome}
use Rattle.exchange_model.specs.declared.reply.Reply.{Reply}
use Rattle.exchange_model.specs.declared.reply.Reply.TheVariants as reply

-- from before the message to after it, with the reply to its sender
pub record IsTaken (header : UserHeader) (payloads : List Payload) (r : Reply) (old new : End) : Type 0 where
  -- the message was received
  pub known : is_known header.id new.inbox ≡ true
  -- it is the next entry of the inbox, unless it was received before
  pub delivered : is_known header.id old.inbox ≡ false
      → new.inbox ≡ old.inbox ++ record { header = header; payloads = payloads } ∷ []
  pub again : is_known header.id old.inbox ≡ true → new.inbox ≡ old.inbox
  -- the reply is its receipt, with a copy of its header
  pub signal : Signal
  pub sent : sends r ≡ message.Signal signal ∷ []
  pub refers : signal.ref_to ≡ Some header.id
  pub copies : signal.body ≡ body.Receipt (Some header)

-- the outcome where no mode of the endpoint is for the message: an error signal that refers to it, and nothing changes
pub record IsRefusedFor (header : UserHeader) (event : Event) (outcome : Outcome) : Type 0 where
  pub unchanged : outcome.effects ≡ []
  pub signal : Signal
  pub says : IsErrorSignalOf 10 (Some header.id) event.stamp event.nonce signal
  pub sent : outcome.reply ≡ reply.Answer (message.Signal signal)
