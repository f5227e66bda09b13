use Rattle.std.proofs.Common.{◌≡◌, ◌≤◌, length, take}
use Rattle.tree_reader.specs.Scopes.{found, scope_of}
use Rattle.tree_reader.specs.Views.{stack_of}
use Rattle.tree_reader.proofs.scope.found_around.Given as goal

-- the result depends only on the elements before this index
abbrev pub invariant-loop-at : goal.invariant-loop-at
invariant-loop-at l = record {
  within : l.at ≤ length l.around;
  left : found (scope_of (stack_of l.around)) l.prefix ≡ found (scope_of (stack_of (take l.at l.around))) l.prefix;
}

abbrev pub decreases-loop-at : goal.decreases-loop-at
decreases-loop-at l = l.at
