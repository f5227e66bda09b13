-- What an endpoint keeps of its submissions and of its inbox, whatever happens to it later.
use Rattle.std.specs.Prelude.{◌≡◌, ℕ, ◌≤◌, Some, slice_get}
use Rattle.exchange_model.specs.End.{End}
use Rattle.exchange_model.specs.declared.inbox_entry.InboxEntry.{InboxEntry}
use Rattle.exchange_model.specs.declared.sent.Sent.{Sent}

-- from an endpoint to the same endpoint later
pub record Keeps (before later : End) : Type 0 where
  -- the entry at a place keeps its place and its header for good, and its payloads until it is confirmed
  pub entries : (n : ℕ) (entry : InboxEntry) → slice_get before.inbox n ≡ Some entry
      → (same : InboxEntry) × (slice_get later.inbox n ≡ Some same) × (same.header ≡ entry.header)
      × (later.confirmed ≤ n → same.payloads ≡ entry.payloads)
  -- what is confirmed stays confirmed
  pub confirmed : before.confirmed ≤ later.confirmed
  -- a submission keeps its place, and its number of tries doesn't fall
  pub submissions : (n : ℕ) (s : Sent) → slice_get before.sent n ≡ Some s
      → (same : Sent) × (slice_get later.sent n ≡ Some same) × (same.submission ≡ s.submission) × (s.tries ≤ same.tries)
