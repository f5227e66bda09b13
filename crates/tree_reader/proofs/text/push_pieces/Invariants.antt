use Rattle.std.proofs.Common.{◌≡◌, length}
use Rattle.tree_reader.specs.Steps.{with_front}
use Rattle.tree_reader.specs.Decoded.{meant_behind}
use Rattle.tree_reader.proofs.text.push_pieces.Given as goal

-- the meaning added so far, followed by that of the rest, is the meaning to add
abbrev pub invariant-loop-rest : goal.invariant-loop-rest
invariant-loop-rest l = with_front l.initial.out.items (meant_behind l.in_value 0 l.bytes) ≡ with_front l.out.items (meant_behind l.in_value 0 l.rest)

abbrev pub decreases-loop-rest : goal.decreases-loop-rest
decreases-loop-rest l = length l.rest
