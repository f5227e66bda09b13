use Rattle.std.proofs.Common.{ap, sym, ◌∙◌, arith}
use Rattle.std.specs.Prelude.{count_by}
use Rattle.due_heap.specs.Counting.{is_due_in}
use Rattle.due_heap.specs.Heaps.{Heaps}
use Rattle.due_heap.proofs.ExchangeLemmas.{numbers_few}
use Rattle.due_heap.proofs.HeapsLemmas.{kept_in}
use Rattle.due_heap.proofs.SumLemmas.{count_all}
use Rattle.due_heap.proofs.TableLemmas.{table_counts}
use Rattle.due_heap.proofs.heaps.Heaps.count_due.Goals as goal

pub count_under-requires-clause-order : goal.count_under-requires-clause-order
count_under-requires-clause-order c =
    (kept_in c.args.self.now c.self.inside.heaps.items c.self.inside.slots.items c.self.inside.room c.args.heap c.index.result.now c.as_slice.result.now c.self.view_is c.self.invariant.0 c.requires c.index.ensures c.as_slice.ensures.value).order

pub count_under-requires-clause-few : goal.count_under-requires-clause-few
count_under-requires-clause-few c =
    let kept = kept_in c.args.self.now c.self.inside.heaps.items c.self.inside.slots.items c.self.inside.room c.args.heap c.index.result.now c.as_slice.result.now c.self.view_is c.self.invariant.0 c.requires c.index.ensures c.as_slice.ensures.value in
    numbers_few c.args.heap c.as_slice.result.now c.self.inside.slots.items kept.points c.self.invariant.0.few

pub count_under-requires-clause-short : goal.count_under-requires-clause-short
count_under-requires-clause-short c = omega (arith, c.as_slice.ensures.len, c.index.result.now.small)

pub returns : goal.returns
returns c =
    let kept = kept_in c.args.self.now c.self.inside.heaps.items c.self.inside.slots.items c.self.inside.room c.args.heap c.index.result.now c.as_slice.result.now c.self.view_is c.self.invariant.0 c.requires c.index.ensures c.as_slice.ensures.value in
    c.count_under.ensures.count ∙ count_all c.args.moment c.as_slice.result.now
    ∙ sym (table_counts c.args.heap c.args.moment c.as_slice.result.now c.self.inside.slots.items kept.points)
    ∙ ap (λ (h : Heaps). count_by (is_due_in c.args.heap c.args.moment) h.places) c.self.view_is
