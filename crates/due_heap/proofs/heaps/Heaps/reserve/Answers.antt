use Rattle.std.proofs.Common.{ap, ◌∙◌, arith}
use Rattle.due_heap.specs.Heaps.{Heaps, standing_at}
use Rattle.due_heap.proofs.HeapsLemmas.{same_table, same_pairs, same_standing, room_made}
use Rattle.due_heap.proofs.heaps.Heaps.reserve.Goals as goal

pub list-requires-clause-few : goal.list-requires-clause-few
list-requires-clause-few c = c.self.invariant.0.few

pub invariant_of-self : goal.invariant_of-self
invariant_of-self c =
    (same_table c.self.inside.heaps.items c.self.inside.slots.items c.list.new.slots.items c.list.ensures.few c.list.ensures.same c.self.invariant.0, tt)

pub returns-in_err-list-clause-same : goal.returns-in_err-list-clause-same
returns-in_err-list-clause-same c =
    λ n. same_standing c.self.inside.heaps.items c.self.inside.heaps.items c.self.inside.slots.items c.list.new.slots.items c.self.inside.room _ c.list.ensures.same n ∙ ap (standing_at n) c.self.view_is

pub invariant_of-self-in_err-reserve : goal.invariant_of-self-in_err-reserve
invariant_of-self-in_err-reserve c =
    let kept = same_table c.self.inside.heaps.items c.self.inside.slots.items c.list.new.slots.items c.list.ensures.few c.list.ensures.same c.self.invariant.0 in
    (same_pairs c.args.heap c.index_mut.result.now c.reserve.new.self c.self.inside.heaps.items c.list.new.slots.items kept (omega (arith, ap (λ (h : Heaps). h.count) c.self.view_is, c.requires.heap)) c.index_mut.ensures.value c.reserve.ensures.items, tt)

pub returns-in_err-reserve-clause-same : goal.returns-in_err-reserve-clause-same
returns-in_err-reserve-clause-same c =
    λ n. same_standing c.self.inside.heaps.items _ c.self.inside.slots.items c.list.new.slots.items c.self.inside.room _ c.list.ensures.same n ∙ ap (standing_at n) c.self.view_is

pub invariant_of-self-2 : goal.invariant_of-self-2
invariant_of-self-2 c =
    let kept = same_table c.self.inside.heaps.items c.self.inside.slots.items c.list.new.slots.items c.list.ensures.few c.list.ensures.same c.self.invariant.0 in (
      same_pairs c.args.heap c.index_mut.result.now c.reserve.new.self c.self.inside.heaps.items c.list.new.slots.items kept (omega (arith, ap (λ (h : Heaps). h.count) c.self.view_is, c.requires.heap)) c.index_mut.ensures.value c.reserve.ensures.items,
      room_made c.args.heap c.args.number c.reserve.new.self c.self.inside.heaps.items c.list.new.slots.items (omega (arith, ap (λ (h : Heaps). h.count) c.self.view_is, c.requires.heap)) c.in_ok-list.ensures.listed (omega (arith, c.in_ok-reserve.ensures.ok)),
    )

pub returns-clause-same : goal.returns-clause-same
returns-clause-same c =
    λ n. same_standing c.self.inside.heaps.items _ c.self.inside.slots.items c.list.new.slots.items c.self.inside.room _ c.list.ensures.same n ∙ ap (standing_at n) c.self.view_is
