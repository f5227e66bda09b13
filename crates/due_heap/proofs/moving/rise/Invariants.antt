use Rattle.due_heap.proofs.MovingLemmas.{IsRising}
use Rattle.due_heap.proofs.moving.rise.Given as goal

abbrev pub invariant-loop-at : goal.invariant-loop-at
invariant-loop-at l = IsRising l.heap l.at l.fn.pairs l.fn.slots l.pairs l.slots

abbrev pub decreases-loop-at : goal.decreases-loop-at
decreases-loop-at l = l.at
