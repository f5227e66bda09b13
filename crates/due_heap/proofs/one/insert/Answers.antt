use Rattle.std.proofs.Common.{◌≡◌, length, arith}
use Rattle.due_heap.proofs.PutLemmas.{added_points, added_order}
use Rattle.due_heap.proofs.one.insert.Goals as goal

pub put-requires-clause-points : goal.put-requires-clause-points
put-requires-clause-points c =
    let behind : c.len-at.result ≡ length c.args.pairs.now.items = omega arith in
    rw (behind, c.as_mut_slice.ensures.value, c.push_reserved.ensures.items)
    (added_points c.args.heap c.args.pair c.args.pairs.now.items c.args.slots.now c.requires.kept.points c.requires.new)

pub put-requires-clause-order : goal.put-requires-clause-order
put-requires-clause-order c =
    let behind : c.len-at.result ≡ length c.args.pairs.now.items = omega arith in
    rw (behind, c.as_mut_slice.ensures.value, c.push_reserved.ensures.items)
    (added_order c.args.pair c.args.pairs.now.items c.requires.kept.order)
