use Rattle.std.proofs.Common.{◌≡◌, ℕ, ◌<◌, false}
use Rattle.as4_values.specs.XmlBytes.{forbidden_at}
use Rattle.as4_values.proofs.xml.first_forbidden.Given as goal

-- none so far
abbrev pub invariant-loop-at : goal.invariant-loop-at
invariant-loop-at l = (k : ℕ) → k < l.at → forbidden_at l.text k ≡ false
