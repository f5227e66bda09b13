-- What a message needs beyond its type so that it is read back.
use Rattle.std.specs.Prelude.{ℕ, ◌≤◌, List, length}
use Rattle.as4_values.specs.declared.message.Message.{Message}
use Rattle.as4_values.specs.declared.message.Message.TheVariants as message
use Rattle.message_model.specs.UnitText.{user_message, signal_message, pair_text, envelope_text}
use Rattle.tree_reader.specs.Documents.{limit}

-- the text of a message's envelope
abbrev pub envelope_of : Message → List ℕ
envelope_of (message.User header payloads) = envelope_text (user_message header)
envelope_of (message.Signal signal) = envelope_text (signal_message signal)
envelope_of (message.Pair p) = envelope_text (pair_text p)

-- the envelope is at most as long as a document may be
abbrev pub IsShort : Message → Type 0
IsShort m = length (envelope_of m) ≤ limit
