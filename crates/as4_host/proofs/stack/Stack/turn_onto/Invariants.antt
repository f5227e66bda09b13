use Rattle.std.proofs.Common.{◌≡◌, ◌++◌, reverse, length}
use Rattle.as4_host.proofs.stack.Stack.turn_onto.Given as goal

abbrev pub invariant-loop-item : goal.invariant-loop-item
invariant-loop-item l = reverse l.self ++ l.other ≡ reverse l.fn.self ++ l.fn.other

abbrev pub decreases-loop-item : goal.decreases-loop-item
decreases-loop-item l = length l.self
