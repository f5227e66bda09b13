-- The contents of an inbox.
use Rattle.std.specs.Prelude.{ℕ, List, Option}
use Rattle.exchange_model.specs.declared.inbox_entry.InboxEntry.{InboxEntry}
use Rattle.inbox.specs.Spots.{Spot}

-- the received messages, where the payloads of each are, the number of confirmed ones, and the identifier that room is
-- reserved for
pub record Deliveries : Type 0 where
  pub entries : List InboxEntry
  pub places : List Spot
  pub confirmed : ℕ
  pub room : Option (List ℕ)
