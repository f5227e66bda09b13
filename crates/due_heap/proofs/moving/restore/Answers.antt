use Rattle.std.proofs.Common.{arith}
use Rattle.due_heap.proofs.ExchangeLemmas.{no_pair, numbers_few}
use Rattle.due_heap.proofs.moving.restore.Goals as goal

pub is_before-requires-clause-number : goal.is_before-requires-clause-number
is_before-requires-clause-number c =
    numbers_few c.args.heap c.args.pairs.now c.args.slots.now c.requires.points c.requires.few c.args.at no_pair c.requires.place

pub is_before-requires-clause-other : goal.is_before-requires-clause-other
is_before-requires-clause-other c =
    numbers_few c.args.heap c.args.pairs.now c.args.slots.now c.requires.points c.requires.few _ no_pair (omega arith)
