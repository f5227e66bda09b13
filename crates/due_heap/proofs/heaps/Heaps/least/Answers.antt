use Rattle.due_heap.specs.Heaps.{HasPair}
use Rattle.due_heap.specs.Order.{IsIn}
use Rattle.due_heap.proofs.ExchangeLemmas.{numbers_few}
use Rattle.due_heap.proofs.HeapsLemmas.{kept_in, has_from_in, in_from_has, least_of_same}
use Rattle.due_heap.proofs.heaps.Heaps.least.Goals as goal

pub least-requires-clause-order : goal.least-requires-clause-order
least-requires-clause-order c =
    (kept_in c.args.self.now c.self.inside.heaps.items c.self.inside.slots.items c.self.inside.room c.args.heap c.index.result.now c.as_slice.result.now c.self.view_is c.self.invariant.0 c.requires c.index.ensures c.as_slice.ensures.value).order

pub least-requires-clause-few : goal.least-requires-clause-few
least-requires-clause-few c =
    let kept = kept_in c.args.self.now c.self.inside.heaps.items c.self.inside.slots.items c.self.inside.room c.args.heap c.index.result.now c.as_slice.result.now c.self.view_is c.self.invariant.0 c.requires c.index.ensures c.as_slice.ensures.value in
    numbers_few c.args.heap c.as_slice.result.now c.self.inside.slots.items kept.points c.self.invariant.0.few

pub returns : goal.returns
returns c =
    let kept = kept_in c.args.self.now c.self.inside.heaps.items c.self.inside.slots.items c.self.inside.room c.args.heap c.index.result.now c.as_slice.result.now c.self.view_is c.self.invariant.0 c.requires c.index.ensures c.as_slice.ensures.value in
    least_of_same (IsIn c.as_slice.result.now) (HasPair c.args.self.now c.args.heap) c.least.result
    (has_from_in c.args.heap c.as_slice.result.now c.args.self.now c.self.inside.heaps.items c.self.inside.slots.items c.self.inside.room c.self.view_is kept)
    (in_from_has c.args.heap c.as_slice.result.now c.args.self.now c.self.inside.heaps.items c.self.inside.slots.items c.self.inside.room c.self.view_is kept)
    c.least.ensures
