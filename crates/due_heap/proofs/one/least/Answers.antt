use Rattle.std.proofs.Common.{◌≡◌, Some, slice_get}
use Rattle.due_heap.proofs.LeastLemmas.{least_first}
use Rattle.due_heap.proofs.one.least.Goals as goal

pub returns : goal.returns
returns c =
    let found : slice_get c.args.pairs.now 0 ≡ Some c.in_ok-first.first.now = cc (c.in_ok-first.ensures.value) in
    least_first c.args.pairs.now c.in_ok-first.first.now c.requires.order c.requires.few found
