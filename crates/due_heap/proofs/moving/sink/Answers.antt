use Rattle.std.proofs.Common.{arith}
use Rattle.due_heap.proofs.ExchangeLemmas.{numbers_few}
use Rattle.due_heap.proofs.MovingLemmas.{number_few, sinks_on}
use Rattle.due_heap.proofs.moving.sink.Goals as goal

pub lesser_under-under-requires-clause-few : goal.lesser_under-under-requires-clause-few
lesser_under-under-requires-clause-few c =
    numbers_few c.args.heap c.loop-at.pairs c.loop-at.slots c.loop-at.invariant.moved.points (omega arith)

pub is_before-requires-clause-number : goal.is_before-requires-clause-number
is_before-requires-clause-number c =
    number_few c.args.heap _ c.args.pairs.now c.args.slots.now c.loop-at.pairs c.loop-at.slots (omega arith) c.loop-at.invariant.moved (omega arith)

pub is_before-requires-clause-other : goal.is_before-requires-clause-other
is_before-requires-clause-other c =
    number_few c.args.heap c.loop-at.at c.args.pairs.now c.args.slots.now c.loop-at.pairs c.loop-at.slots (omega arith) c.loop-at.invariant.moved c.loop-at.invariant.within

pub loop-at-preserved : goal.loop-at-preserved
loop-at-preserved c =
    sinks_on c.args.heap c.loop-at.at _ c.args.pairs.now c.args.slots.now c.loop-at.pairs c.loop-at.slots c.exchange.new.pairs c.exchange.new.slots (omega arith) (omega arith) (omega arith) c.lesser_under-under.ensures.lesser c.loop-at.invariant (omega arith) c.exchange.ensures.pairs c.exchange.ensures.swap
