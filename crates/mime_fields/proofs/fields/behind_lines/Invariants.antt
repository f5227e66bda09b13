use Rattle.std.proofs.Common.{length}
use Rattle.mime_fields.proofs.LineLemmas.{GoOn}
use Rattle.mime_fields.proofs.fields.behind_lines.Given as goal

-- the bytes after the lines of the rest are those after all lines
abbrev pub invariant-loop-next : goal.invariant-loop-next
invariant-loop-next l = GoOn l.bytes l.rest

abbrev pub decreases-loop-next : goal.decreases-loop-next
decreases-loop-next l = length l.rest
