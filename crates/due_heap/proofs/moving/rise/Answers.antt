use Rattle.std.proofs.Common.{refl, arith}
use Rattle.due_heap.proofs.MovingLemmas.{number_few, rises_on}
use Rattle.due_heap.proofs.moving.rise.Goals as goal

pub is_before-requires-clause-number : goal.is_before-requires-clause-number
is_before-requires-clause-number c =
    number_few c.args.heap c.loop-at.at c.args.pairs.now c.args.slots.now c.loop-at.pairs c.loop-at.slots (omega arith) c.loop-at.invariant.moved c.loop-at.invariant.within

pub is_before-requires-clause-other : goal.is_before-requires-clause-other
is_before-requires-clause-other c =
    number_few c.args.heap _ c.args.pairs.now c.args.slots.now c.loop-at.pairs c.loop-at.slots (omega arith) c.loop-at.invariant.moved (omega arith)

pub loop-at-preserved : goal.loop-at-preserved
loop-at-preserved c =
    rises_on c.args.heap c.loop-at.at _ c.args.pairs.now c.args.slots.now c.loop-at.pairs c.loop-at.slots c.exchange.new.pairs c.exchange.new.slots c.loop-at-test.true refl c.loop-at.invariant (omega arith) c.exchange.ensures.pairs c.exchange.ensures.swap
