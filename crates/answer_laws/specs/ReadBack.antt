-- Messages that are read as themselves, and how a received message is answered.
use Rattle.std.specs.Prelude.{◌≡◌, ℕ, List, Ok}
use Rattle.as4_message.specs.Meaning.{Copies, Means}
use Rattle.as4_values.specs.declared.message.Message.{Message}
use Rattle.exchange_model.specs.declared.reply.Reply.{Reply}
use Rattle.exchange_model.specs.declared.reply.Reply.TheVariants as reply
use Rattle.message_model.specs.Wire.{IsWire}

-- whatever message is read of what is written of this one is this one
abbrev pub IsReadAsItself : Message → Type 0
IsReadAsItself m = (media body : List ℕ) (read : Message) → IsWire m media body → Copies (Means media body) (Ok read) → read ≡ m

-- a reply to a received message: an answer that is read as itself, no answer, or a full journal
abbrev pub IsAnswer : Reply → Type 0
IsAnswer (reply.Answer m) = IsReadAsItself m
IsAnswer reply.Quiet = Unit {0}
IsAnswer (reply.Full size need) = Unit {0}
IsAnswer other = ⊥
