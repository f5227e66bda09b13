use Rattle.std.proofs.Common.{◌≡◌, ◌+◌, drop, take}
use Rattle.std.specs.List.{sum_by}
use Rattle.msh_core.specs.Folding.{capped, delivered_len}
use Rattle.msh_core.proofs.folding.waiting_size.Given as goal

-- those so far are counted
abbrev pub invariant-loop-count : goal.invariant-loop-count
invariant-loop-count l = l.total ≡ capped (l.sum + sum_by delivered_len (take l.count (drop l.tables.end.confirmed l.tables.end.inbox)))
