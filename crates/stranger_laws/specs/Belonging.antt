-- Which messages go out for which events (ebMS 3.0 Core, section 2.2).
use Rattle.std.specs.Prelude.{◌≡◌}
use Rattle.exchange_model.specs.declared.reply.Reply.{Reply}
use Rattle.exchange_model.specs.declared.reply.Reply.TheVariants as reply
use Rattle.exchange_model.specs.declared.what.What.{What}
use Rattle.exchange_model.specs.declared.what.What.TheVariants as what

-- the event asks for a pull request, alone or with a receipt
abbrev pub AsksToPull : What → Type 0
AsksToPull (what.Ask mode) = Unit {0}
AsksToPull (what.AskWith mode n) = Unit {0}
AsksToPull other = ⊥

-- the event is a message that was received
abbrev pub IsReceived : What → Type 0
IsReceived (what.Came m) = Unit {0}
IsReceived other = ⊥

-- a message is pushed to an address only where one was asked for, a pull request goes out only where one was asked for, and
-- an answer goes back only where a message was received
abbrev pub BelongsTo : What → Reply → Type 0
BelongsTo w (reply.Push address m) = w ≡ what.Take
BelongsTo w (reply.Request address m) = AsksToPull w
BelongsTo w (reply.Answer m) = IsReceived w
BelongsTo w other = Unit {0}
