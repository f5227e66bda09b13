-- What the reader of messages must return.
use Rattle.std.specs.Prelude.{◌≡◌, Result, Ok, Err}
use Rattle.as4_message.specs.declared.received.MessageRefusal.{MessageRefusal}
use Rattle.as4_message.specs.declared.received.MessageRefusal.TheVariants.{Refused, NoMemory}
use Rattle.as4_values.specs.declared.message.Message.{Message}

-- the result is this message, unless memory ran out
abbrev pub IsReadAs : Result Message MessageRefusal → Message → Type 0
IsReadAs (Ok read) m = read ≡ m
IsReadAs (Err (Refused refusal)) m = ⊥
IsReadAs (Err NoMemory) m = Unit {0}
