-- What the effects of a compaction require of the endpoint, in addition to what the types of its parts guarantee.
use Rattle.std.specs.Prelude.{◌≡◌, ◌^◌, ◌<◌, ◌≤◌, true, take, drop}
use Rattle.std.specs.List.{Contains}
use Rattle.as4_values.specs.Pairing.{pair}
use Rattle.as4_effects.specs.Sound.{delivered_body, fits_an_effect, kept_body}
use Rattle.exchange_model.specs.End.{End}
use Rattle.exchange_model.specs.declared.inbox_entry.InboxEntry.{InboxEntry}
use Rattle.exchange_model.specs.declared.sent.Sent.{Sent}

-- each of its effects can be made
pub record CanBeWritten (end : End) : Type 0 where
  -- the clock can show the moment when a submission was last sent
  pub tried : (s : Sent) → Contains end.sent s → s.last ≤ 253402300799999
  -- its number of tries has 32 bits
  pub counted : (s : Sent) → Contains end.sent s → s.tries < 2 ^ 32
  -- the header of a confirmed entry isn't too long for an effect
  pub kept : (entry : InboxEntry) → Contains (take end.confirmed end.inbox) entry → fits_an_effect (kept_body entry.header) ≡ true
  -- any other entry has the payloads that its header names, and isn't too long with them
  pub delivered : (entry : InboxEntry) → Contains (drop end.confirmed end.inbox) entry
      → (pair entry.header.parts entry.payloads ≡ true) × (fits_an_effect (delivered_body entry.header entry.payloads) ≡ true)
  -- the clock shows a moment that has a stamp
  pub dated : end.moment ≤ 253402300799999
