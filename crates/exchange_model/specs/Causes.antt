-- Which acts cause the state of an endpoint.
use Rattle.std.specs.Prelude.{◌≡◌, ℕ, ◌≤◌, List, IsTrue, Option, Some, map}
use Rattle.std.specs.List.{Contains}
use Rattle.std.specs.Option.{option_or}
use Rattle.as4_effects.specs.declared.effect.Effect.TheVariants as effect
use Rattle.as4_effects.specs.declared.submission.Submission.{Submission}
use Rattle.mode_values.specs.ModeMatch.{Matches, mode_named}
use Rattle.as4_values.specs.declared.header.UserHeader.{UserHeader}
use Rattle.as4_values.specs.declared.message.Message.TheVariants as message
use Rattle.mode_values.specs.declared.mode.Mode.{Mode}
use Rattle.as4_values.specs.declared.payload.Load.{Load}
use Rattle.as4_values.specs.declared.payload.Payload.{Payload}
use Rattle.as4_values.specs.declared.signal.Signal.{Signal}
use Rattle.as4_values.specs.declared.signal_body.ErrorItem.{ErrorItem}
use Rattle.as4_values.specs.declared.signal_body.Severity.TheVariants.{Failure}
use Rattle.as4_values.specs.declared.signal_body.SignalBody.TheVariants as body
use Rattle.exchange_model.specs.Table.{IsOther, names_channel}
use Rattle.exchange_model.specs.World.{Act}
use Rattle.exchange_model.specs.declared.reply.Reply.TheVariants as reply
use Rattle.exchange_model.specs.declared.sent.Sent.{Sent}
use Rattle.exchange_model.specs.declared.what.What.{What}
use Rattle.exchange_model.specs.declared.what.What.TheVariants.{Submit, Came, Confirm}

-- the act submitted it, by a mode of the endpoint: it has the contents of its loads, and is sent as the mode says
pub record HandsIn (s : Submission) (act : Act) : Type 0 where
  pub name : List ℕ
  pub conversation : Option (List ℕ)
  pub loads : List Load
  pub mode : Mode
  pub asked : act.event.what ≡ Submit name conversation loads
  pub named : mode_named act.modes name ≡ Some mode
  pub told : act.outcome.reply ≡ reply.Submitted s.number s.header.id
  pub contents : map (λ (payload : Payload). payload.content) s.payloads ≡ map (λ (load : Load). load.content) loads
  pub medias : map (λ (payload : Payload). payload.media) s.payloads ≡ map (λ (load : Load). load.media) loads
  pub talks : s.header.conversation ≡ conversation
  pub matches : Matches mode s.header
  pub route : s.route ≡ mode.route
  pub retries : s.retries ≡ mode.retries
  pub period : s.period ≡ mode.period

-- a signal is received: alone, or as the receipt of a pair that pulls from a channel of these modes
abbrev pub BringsSignal : List Mode → What → Signal → Type 0
BringsSignal modes (Came (message.Signal signal)) brought = signal ≡ brought
BringsSignal modes (Came (message.Pair pair)) brought = (pair.receipt ≡ brought) × IsTrue (names_channel modes pair.pull.body)
BringsSignal modes other brought = ⊥

-- a receipt was received that names the submission, without a copy of another header, and it settled the submission
pub record BringsReceiptOf (s : Sent) (act : Act) : Type 0 where
  pub signal : Signal
  pub copy : Option UserHeader
  pub came : BringsSignal act.modes act.event.what signal
  pub receipt : signal.body ≡ body.Receipt copy
  pub names : signal.ref_to ≡ Some s.submission.header.id
  pub same : ¬ IsOther copy s.submission.header
  pub settles : Contains act.outcome.effects (effect.Receipted s.submission.number)

-- an error signal was received with a failure of this code about the submission
pub record BringsFailureOf (s : Sent) (code : List ℕ) (act : Act) : Type 0 where
  pub signal : Signal
  pub items : List ErrorItem
  pub item : ErrorItem
  pub came : act.event.what ≡ Came (message.Signal signal)
  pub errors : signal.body ≡ body.Errors items
  pub one : Contains items item
  pub failure : item.severity ≡ Failure
  pub names : option_or item.about signal.ref_to ≡ Some s.submission.header.id
  pub told : item.code ≡ code

-- the consumer confirmed the entry at this place or a later one, and the reply said so
pub record TakesOver (n : ℕ) (act : Act) : Type 0 where
  pub upto : ℕ
  pub asked : act.event.what ≡ Confirm upto
  pub told : act.outcome.reply ≡ reply.Confirmed upto
  pub within : n ≤ upto
