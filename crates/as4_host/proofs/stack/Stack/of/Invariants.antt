use Rattle.std.proofs.Common.{◌≡◌, ◌++◌, length}
use Rattle.as4_host.proofs.stack.Stack.of.Given as goal

abbrev pub invariant-loop-item : goal.invariant-loop-item
invariant-loop-item l = l.items.items ++ l.stack ≡ l.fn.items

abbrev pub decreases-loop-item : goal.decreases-loop-item
decreases-loop-item l = length l.items.items
