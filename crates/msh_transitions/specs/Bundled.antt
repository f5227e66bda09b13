-- The outcome of a pull request after the receipt that it is bundled with.
use Rattle.std.specs.Prelude.{◌≡◌, ℕ, List, [], ◌∷◌, Option, Some, None}
use Rattle.as4_codes.specs.Signals.{IsErrorSignalOf}
use Rattle.as4_effects.specs.declared.effect.Effect.TheVariants as effect
use Rattle.as4_effects.specs.declared.queue.Queue.TheVariants as queue
use Rattle.as4_values.specs.declared.message.Message.TheVariants as message
use Rattle.as4_values.specs.declared.signal.Signal.{Signal}
use Rattle.exchange_model.specs.Apply.{after}
use Rattle.exchange_model.specs.End.{End}
use Rattle.exchange_model.specs.Questions.{head_of}
use Rattle.exchange_model.specs.Table.{Gives, message_of}
use Rattle.exchange_model.specs.declared.event.Event.{Event}
use Rattle.exchange_model.specs.declared.outcome.Outcome.{Outcome}
use Rattle.exchange_model.specs.declared.reply.Reply.TheVariants as reply
use Rattle.exchange_model.specs.declared.sent.Sent.{Sent}

-- the submission of this number is receipted, and then the channel is empty
abbrev pub IsEmptyBehind : Event → List ℕ → ℕ → Outcome → Type 0
IsEmptyBehind event id number outcome =
    (signal : Signal) × IsErrorSignalOf 6 (Some id) event.stamp event.nonce signal
    × Gives (effect.Receipted number) (reply.Answer (message.Signal signal)) outcome

-- it is receipted, and then the head of the channel is sent
abbrev pub IsServedBehind : Event → List ℕ → ℕ → Option Sent → Outcome → Type 0
IsServedBehind event id number None outcome = IsEmptyBehind event id number outcome
IsServedBehind event id number (Some s) outcome =
    outcome ≡ record {
      effects = effect.Receipted number ∷ effect.Tried s.submission.number ∷ [];
      reply = reply.Answer (message_of s.submission);
    }

abbrev pub IsBehind : End → Event → List ℕ → List ℕ → ℕ → Outcome → Type 0
IsBehind end event id mpc number outcome =
    IsServedBehind event id number (head_of (queue.Channel mpc) (after (effect.Receipted number) end)) outcome
