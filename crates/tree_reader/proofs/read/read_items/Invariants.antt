use Rattle.std.proofs.Common.{◌≤◌, length}
use Rattle.tree_reader.specs.Halts.{Reached}
use Rattle.tree_reader.specs.Views.{state_of}
use Rattle.tree_reader.proofs.read.read_items.Given as goal

-- the items before the rest are read
abbrev pub invariant-loop-rest : goal.invariant-loop-rest
invariant-loop-rest l = record {
  within : length l.rest ≤ length l.bytes;
  reached : Reached l.bytes (state_of l.reading) l.rest;
}

abbrev pub decreases-loop-rest : goal.decreases-loop-rest
decreases-loop-rest l = length l.rest
