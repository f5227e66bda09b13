use Rattle.std.proofs.Common.{◌≡◌, ◌≤◌, length}
use Rattle.byte_forms.specs.Trimmed.{end_of}
use Rattle.byte_forms.proofs.trim.end_without_blanks.Given as goal

-- blanks from here on
abbrev pub invariant-loop-end : goal.invariant-loop-end
invariant-loop-end l = (l.end ≤ length l.bytes) × (end_of l.bytes l.end ≡ end_of l.bytes (length l.bytes))

abbrev pub decreases-loop-end : goal.decreases-loop-end
decreases-loop-end l = l.end
