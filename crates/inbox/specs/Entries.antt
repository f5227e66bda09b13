-- How an entry of an inbox is seen: as the model's entry with its payloads, and as the place where these are.
use Rattle.std.specs.Prelude.{List, [], ◌∷◌}
use Rattle.as4_values.specs.declared.payload.Payload.{Payload}
use Rattle.exchange_model.specs.declared.inbox_entry.InboxEntry.{InboxEntry}
use Rattle.inbox.specs.Spots.{Spot}
use Rattle.inbox.specs.declared.entry.Entry.{Entry}

-- the payloads that were noted, if any
abbrev pub brought : List (List Payload) → List Payload
brought [] = []
brought (payloads ∷ later) = payloads

abbrev pub entry_of : Entry → InboxEntry
entry_of e = record { header = e.header; payloads = brought e.payloads }

abbrev pub spot_of : Entry → Spot
spot_of e = record { gate = e.gate; length = e.length }
