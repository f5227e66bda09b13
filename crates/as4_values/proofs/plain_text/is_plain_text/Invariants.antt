use Rattle.std.proofs.Common.{ℕ, ◌<◌}
use Rattle.std.specs.Prelude.{IsTrue}
use Rattle.as4_values.specs.PlainTexts.{allows_at}
use Rattle.as4_values.proofs.plain_text.is_plain_text.Given as goal

-- the bytes so far are allowed
abbrev pub invariant-loop-at : goal.invariant-loop-at
invariant-loop-at l = (k : ℕ) → k < l.at → IsTrue (allows_at l.bytes k)
