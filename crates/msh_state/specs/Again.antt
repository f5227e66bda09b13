-- A submission that was sent waits again, if it may be sent again.
use Rattle.std.specs.Prelude.{List, if◌then◌else◌, Option, Some, None}
use Rattle.channels.specs.Queues.{inserted}
use Rattle.channels.specs.declared.waiting.Waiting.{Waiting}
use Rattle.exchange_model.specs.Questions.{is_waiting}
use Rattle.exchange_model.specs.declared.sent.Sent.{Sent}
use Rattle.msh_state.specs.Waiting.{waiting_of}

-- the waiting ones, with this one if it waits
abbrev pub with_again : Option Sent → List Waiting → List Waiting
with_again None waiting = waiting
with_again (Some s) waiting = if is_waiting s then inserted (waiting_of s) waiting else waiting
