use Rattle.std.proofs.Common.{◌≤◌}
use Rattle.as4_values.specs.Word.{IsAllowedUpTo, limit_of}
use Rattle.as4_values.proofs.word.Word.first_wrong.Given as goal

-- the bytes so far are allowed, and within the limit
abbrev pub invariant-loop-at : goal.invariant-loop-at
invariant-loop-at l = IsAllowedUpTo l.self l.bytes l.at × (l.at ≤ limit_of l.self)
