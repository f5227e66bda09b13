-- Where the entries of an inbox come from.
use Rattle.std.specs.Prelude.{◌≡◌, ℕ, ◌≤◌, List, Some, IsSome, slice_get}
use Rattle.std.specs.List.{Contains}
use Rattle.as4_values.specs.declared.message.Message.TheVariants as message
use Rattle.as4_values.specs.declared.payload.Payload.{Payload}
use Rattle.exchange_model.specs.End.{End}
use Rattle.exchange_model.specs.World.{Act}
use Rattle.exchange_model.specs.declared.inbox_entry.InboxEntry.{InboxEntry}
use Rattle.exchange_model.specs.declared.what.What.TheVariants.{Came}
use Rattle.mode_values.specs.ModeMatch.{mode_of}

-- in one of the acts the entry's message was received, and the endpoint had a mode for it
pub record WasBrought (acts : List Act) (entry : InboxEntry) (is_kept : Type 0) : Type 0 where
  pub act : Act
  pub done : Contains acts act
  pub payloads : List Payload
  pub came : act.event.what ≡ Came (message.User entry.header payloads)
  pub mode : IsSome (mode_of act.modes entry.header)
  -- where the entry must keep its payloads, they are those that were received
  pub same : is_kept → entry.payloads ≡ payloads

-- each entry of the inbox was received, and keeps its payloads until it is confirmed
abbrev pub IsInboxBrought : List Act → End → Type 0
IsInboxBrought acts end =
    (n : ℕ) (entry : InboxEntry) → slice_get end.inbox n ≡ Some entry → WasBrought acts entry (end.confirmed ≤ n)
