use Rattle.std.proofs.Common.{◌-◌, length}
use Rattle.mime_fields.proofs.QuoteLemmas.{MeantSoFar}
use Rattle.mime_fields.proofs.value.unescaped.Given as goal

-- the bytes so far precede those of the rest
abbrev pub invariant-loop-at : goal.invariant-loop-at
invariant-loop-at l = MeantSoFar l.quoted l.bytes.items l.at

abbrev pub decreases-loop-at : goal.decreases-loop-at
decreases-loop-at l = length l.quoted - l.at
