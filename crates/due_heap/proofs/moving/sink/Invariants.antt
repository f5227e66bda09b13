use Rattle.std.proofs.Common.{◌-◌, length}
use Rattle.due_heap.proofs.MovingLemmas.{IsSinking}
use Rattle.due_heap.proofs.moving.sink.Given as goal

abbrev pub invariant-loop-at : goal.invariant-loop-at
invariant-loop-at l = IsSinking l.heap l.at l.fn.pairs l.fn.slots l.pairs l.slots

abbrev pub decreases-loop-at : goal.decreases-loop-at
decreases-loop-at l = length l.initial.pairs - l.at
