use Rattle.std.proofs.Common.{◌≤◌, length, drop}
use Rattle.tree_reader.specs.Declarations.{Indexes}
use Rattle.tree_reader.proofs.declarations.index_of.Given as goal

-- the index has the declarations from here on
abbrev pub invariant-loop-at : goal.invariant-loop-at
invariant-loop-at l = record {
  within : l.at ≤ length l.list;
  indexed : Indexes l.index l.list (drop l.at l.list);
}

abbrev pub decreases-loop-at : goal.decreases-loop-at
decreases-loop-at l = l.at
