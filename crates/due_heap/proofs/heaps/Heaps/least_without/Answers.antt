use Rattle.due_heap.specs.Heaps.{HasPairBut}
use Rattle.due_heap.specs.Order.{IsInBut}
use Rattle.due_heap.proofs.ExchangeLemmas.{numbers_few}
use Rattle.due_heap.proofs.HeapsLemmas.{kept_in, has_from_in, in_from_has, least_of_same}
use Rattle.due_heap.proofs.PointLemmas.{one_place}
use Rattle.due_heap.proofs.heaps.Heaps.least_without.Goals as goal

pub least_without-requires-clause-order : goal.least_without-requires-clause-order
least_without-requires-clause-order c =
    (kept_in c.args.self.now c.self.inside.heaps.items c.self.inside.slots.items c.self.inside.room c.args.heap c.index.result.now c.as_slice.result.now c.self.view_is c.self.invariant.0 c.requires c.index.ensures c.as_slice.ensures.value).order

pub least_without-requires-clause-few : goal.least_without-requires-clause-few
least_without-requires-clause-few c =
    let kept = kept_in c.args.self.now c.self.inside.heaps.items c.self.inside.slots.items c.self.inside.room c.args.heap c.index.result.now c.as_slice.result.now c.self.view_is c.self.invariant.0 c.requires c.index.ensures c.as_slice.ensures.value in
    numbers_few c.args.heap c.as_slice.result.now c.self.inside.slots.items kept.points c.self.invariant.0.few

pub least_without-requires-clause-once : goal.least_without-requires-clause-once
least_without-requires-clause-once c =
    let kept = kept_in c.args.self.now c.self.inside.heaps.items c.self.inside.slots.items c.self.inside.room c.args.heap c.index.result.now c.as_slice.result.now c.self.view_is c.self.invariant.0 c.requires c.index.ensures c.as_slice.ensures.value in
    one_place c.args.heap c.as_slice.result.now c.self.inside.slots.items kept.points

pub returns : goal.returns
returns c =
    let kept = kept_in c.args.self.now c.self.inside.heaps.items c.self.inside.slots.items c.self.inside.room c.args.heap c.index.result.now c.as_slice.result.now c.self.view_is c.self.invariant.0 c.requires c.index.ensures c.as_slice.ensures.value in
    least_of_same (IsInBut c.as_slice.result.now c.args.number) (HasPairBut c.args.self.now c.args.heap c.args.number) c.least_without.result
    (λ x there. (has_from_in c.args.heap c.as_slice.result.now c.args.self.now c.self.inside.heaps.items c.self.inside.slots.items c.self.inside.room c.self.view_is kept x there.0, there.1))
    (λ x there. (in_from_has c.args.heap c.as_slice.result.now c.args.self.now c.self.inside.heaps.items c.self.inside.slots.items c.self.inside.room c.self.view_is kept x there.0, there.1))
    c.least_without.ensures
