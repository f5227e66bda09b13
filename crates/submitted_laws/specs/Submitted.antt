-- What a producer submits by a mode, the signals about it, and messages that are read back.
use Rattle.std.specs.Prelude.{◌≡◌, ℕ, ◌≤◌, List, Option, Some, Result, Ok, IfSome, length}
use Rattle.as4_codes.specs.Signals.{IsReceiptOf, IsErrorSignalOf, IsPullOf, IsPairOf}
use Rattle.as4_effects.specs.declared.submission.Submission.{Submission}
use Rattle.as4_message.specs.Meaning.{AnswersBy, Copies, ReceivedValue, Means, IsMessage}
use Rattle.as4_message.specs.declared.received.MessageRefusal.{MessageRefusal}
use Rattle.as4_values.specs.declared.message.Message.{Message}
use Rattle.as4_values.specs.declared.message.Message.TheVariants as message
use Rattle.as4_values.specs.declared.message.Pair.{Pair}
use Rattle.as4_values.specs.declared.payload.Load.{Load}
use Rattle.as4_values.specs.declared.signal.Signal.{Signal}
use Rattle.exchange_model.specs.Submitting.{IsSubmissionOf, channel_of}
use Rattle.message_laws.specs.Answers.{IsReadAs}
use Rattle.message_model.specs.Wire.{IsWire}
use Rattle.mode_values.specs.declared.mode.Mode.{Mode}

-- it was submitted by some mode, in a conversation whose identifier has at most 255 bytes
pub record IsShortlySubmitted (s : Submission) : Type 0 where
  pub mode : Mode
  pub number : ℕ
  pub now : ℕ
  pub ms : ℕ
  pub nonce : ℕ
  pub conversation : Option (List ℕ)
  pub loads : List Load
  pub made : IsSubmissionOf mode number now ms nonce conversation loads s
  pub talks : IfSome conversation (λ text. length text ≤ 255)

-- a receipt of its user message
pub record IsReceiptFor (s : Submission) (m : Message) : Type 0 where
  pub ms : ℕ
  pub nonce : ℕ
  pub signal : Signal
  pub made : IsReceiptOf s.header ms nonce signal
  pub is : m ≡ message.Signal signal

-- a receipt of its user message, bundled with a pull request for the channel of some mode
pub record IsPairFor (s : Submission) (m : Message) : Type 0 where
  pub mode : Mode
  pub mpc : List ℕ
  pub ms : ℕ
  pub nonce : ℕ
  pub pair : Pair
  pub channel : channel_of mode.route ≡ Some mpc
  pub made : IsPairOf s.header mpc ms nonce pair
  pub is : m ≡ message.Pair pair

-- an error signal about its user message
pub record IsErrorSignalFor (s : Submission) (m : Message) : Type 0 where
  pub code : ℕ
  pub ms : ℕ
  pub nonce : ℕ
  pub signal : Signal
  pub made : IsErrorSignalOf code (Some s.header.id) ms nonce signal
  pub is : m ≡ message.Signal signal

-- a pull request for the channel of some mode
pub record IsPullRequest (m : Message) : Type 0 where
  pub mode : Mode
  pub mpc : List ℕ
  pub ms : ℕ
  pub nonce : ℕ
  pub signal : Signal
  pub channel : channel_of mode.route ≡ Some mpc
  pub made : IsPullOf mpc ms nonce signal
  pub is : m ≡ message.Signal signal

-- the media text and the body mean the message, and their reader's answer is the message, unless memory ran out
pub record AreReadAs (media body : List ℕ) (m : Message) : Type 0 where
  pub meant : (received : ReceivedValue) × Means media body (Ok received) × IsMessage received m
  pub answered : (answer : Result Message MessageRefusal) → AnswersBy (λ read. read) answer (Copies (Means media body)) → IsReadAs answer m

-- whatever is written of the message is read as the message
abbrev pub IsReadBack : Message → Type 0
IsReadBack m = (media body : List ℕ) → IsWire m media body → AreReadAs media body m
