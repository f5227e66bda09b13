use Rattle.std.proofs.Common.{◌≡◌, ◌≤◌, length, take}
use Rattle.mime_fields.specs.Loops.{end_trimmed}
use Rattle.mime_fields.proofs.unfolded.trimmed_len.Given as goal

-- the bytes after the end are trimmed
abbrev pub invariant-loop-end : goal.invariant-loop-end
invariant-loop-end l = (l.end ≤ length l.bytes) × (end_trimmed (take l.end l.bytes) ≡ end_trimmed l.bytes)

abbrev pub decreases-loop-end : goal.decreases-loop-end
decreases-loop-end l = l.end
