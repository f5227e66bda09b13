use Rattle.std.proofs.Common.{◌≡◌, ◌+◌, take}
use Rattle.std.specs.List.{sum_by}
use Rattle.msh_core.specs.Folding.{capped, carried_len}
use Rattle.msh_core.proofs.folding.submissions_size.Given as goal

-- those so far are counted
abbrev pub invariant-loop-number : goal.invariant-loop-number
invariant-loop-number l = l.total ≡ capped (l.sum + sum_by carried_len (take l.number l.tables.end.sent))
