-- The answer to a message file, and its check line.
use Rattle.std.specs.Prelude.{ℕ, List, Bool, Result, Ok, Err}
use Rattle.as4_values.specs.declared.signal.Signal.{Signal}
use Rattle.as4_values.specs.declared.message.Message.TheVariants as message
use Rattle.message_model.specs.Wire.{IsFile, media_and_body}
use Rattle.as4_codes.specs.Signals.{IsReceiptOf, IsErrorSignalOf}
use Rattle.as4_message.specs.Line.{IsLine}
use Rattle.as4_message.specs.Meaning.{ReceivedValue, user, signal, pair, Means}
use Rattle.as4_message.specs.declared.received.Refusal.{Refusal}

-- the meaning of the media text and the body of a message file
abbrev pub FileMeans : List ℕ → Result ReceivedValue Refusal → Type 0
FileMeans file meant = Means (media_and_body file).0 (media_and_body file).1 meant

-- the reply: a receipt for a user message, or an error signal for a refusal. A signal or a pair has none
abbrev pub IsReply : ℕ → ℕ → Result ReceivedValue Refusal → Signal → Type 0
IsReply stamp nonce (Ok (user header parts)) reply = IsReceiptOf header stamp nonce reply
IsReply stamp nonce (Ok (signal s)) reply = ⊥
IsReply stamp nonce (Ok (pair p)) reply = ⊥
IsReply stamp nonce (Err refusal) reply = IsErrorSignalOf refusal.code refusal.about stamp nonce reply

-- the answer is the message file of the reply
abbrev pub IsAnswer : ℕ → ℕ → List ℕ → List ℕ → Type 0
IsAnswer stamp nonce file answer =
    (meant : Result ReceivedValue Refusal) × (reply : Signal) × FileMeans file meant × IsReply stamp nonce meant reply
    × IsFile (message.Signal reply) answer

-- a signal, alone or in a pair
abbrev pub IsSignal : Result ReceivedValue Refusal → Type 0
IsSignal (Ok (user header parts)) = ⊥
IsSignal (Ok (signal s)) = Unit {0}
IsSignal (Ok (pair p)) = Unit {0}
IsSignal (Err refusal) = ⊥

-- the file is that of a signal or a pair
abbrev pub IsSignalFile : List ℕ → Type 0
IsSignalFile file = (meant : Result ReceivedValue Refusal) × FileMeans file meant × IsSignal meant

-- the check line of the file, and whether the file is refused
abbrev pub IsFileLine : List ℕ → List ℕ → Bool → Type 0
IsFileLine file line refused = IsLine (FileMeans file) line refused
