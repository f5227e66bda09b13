use Rattle.std.proofs.Common.{◌-◌, length}
use Rattle.mime_fields.proofs.QuoteLemmas.{EndsBehind}
use Rattle.mime_fields.proofs.value.quoted_len.Given as goal

-- the closing quote of the rest is that of the whole
abbrev pub invariant-loop-at : goal.invariant-loop-at
invariant-loop-at l = EndsBehind l.bytes l.at

abbrev pub decreases-loop-at : goal.decreases-loop-at
decreases-loop-at l = length l.bytes - l.at
