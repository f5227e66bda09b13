use Rattle.std.proofs.Common.{◌≡◌, ◌++◌, List, length}
use Rattle.httparse.specs.Grammar.{LineEnd, print_blank}
use Rattle.conformance.proofs.heads.after_empty_lines.Given as goal

-- only ends of lines were left aside
abbrev pub invariant-loop-next : goal.invariant-loop-next
invariant-loop-next l = (blank : List LineEnd) × (l.bytes ≡ print_blank blank ++ l.rest)

abbrev pub decreases-loop-next : goal.decreases-loop-next
decreases-loop-next l = length l.rest
