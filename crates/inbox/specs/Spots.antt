-- Where a received message's payloads are: they aren't in memory.
use Rattle.std.specs.Prelude.{ℕ}

-- the gate of the record that delivered the message, and the length of a body that delivers it alone
pub record Spot : Type 0 where
  pub gate : ℕ
  pub length : ℕ
