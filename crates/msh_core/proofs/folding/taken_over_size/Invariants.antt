use Rattle.std.proofs.Common.{◌≡◌, ◌+◌, take}
use Rattle.std.specs.List.{sum_by}
use Rattle.msh_core.specs.Folding.{capped, kept_len}
use Rattle.msh_core.proofs.folding.taken_over_size.Given as goal

-- those so far are counted
abbrev pub invariant-loop-place : goal.invariant-loop-place
invariant-loop-place l = l.total ≡ capped (l.sum + sum_by kept_len (take l.place l.tables.end.inbox))
