-- One endpoint of an exchange, as this handler keeps it: its submissions, the messages that it received, its clock and
-- its journal's size.
use Rattle.std.specs.Prelude.{ℕ, List, []}
use Rattle.exchange_model.specs.declared.inbox_entry.InboxEntry.{InboxEntry}
use Rattle.exchange_model.specs.declared.sent.Sent.{Sent}

pub record End : Type 0 where
  -- the submissions, by number
  pub sent : List Sent
  -- the received messages, in order
  pub inbox : List InboxEntry
  -- the number of these that are confirmed
  pub confirmed : ℕ
  -- the clock, in milliseconds since 1970
  pub moment : ℕ
  -- the journal's size in bytes
  pub size : ℕ

-- an endpoint to which nothing has happened; a journal begins with nine bytes
abbrev pub empty_end : End
empty_end = record { sent = []; inbox = []; confirmed = 0; moment = 0; size = 9 }
