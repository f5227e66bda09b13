use Rattle.std.proofs.Common.{◌≡◌, None, length, refl, arith}
use Rattle.std.proofs.lemmas.List.{with_items_is}
use Rattle.std.proofs.lemmas.Option.{slice_get_read}
use Rattle.due_heap.proofs.HeapsLemmas.{slot_some, kept_at, one_changed, one_set, room_stays}
use Rattle.due_heap.proofs.heaps.Heaps.remove.Goals as goal

pub slot_of-slot-requires : goal.slot_of-slot-requires
slot_of-slot-requires c =
    rw c.as_slice.ensures.value
    (slot_some c.args.self.now c.self.inside.heaps.items c.self.inside.slots.items c.self.inside.room c.args.number c.self.view_is c.requires.there)

pub remove-requires-clause-kept : goal.remove-requires-clause-kept
remove-requires-clause-kept c =
    let listed = rw c.as_slice.ensures.value at c.slot_of-slot.ensures in
    let there = c.self.invariant.0.known c.args.number c.slot_of-slot.result listed in
    rw c.as_mut_slice.ensures.value
    (kept_at c.slot_of-slot.result.heap c.index_mut.result.now c.self.inside.heaps.items c.self.inside.slots.items c.self.invariant.0 there c.index_mut.ensures.value)

pub invariant_of-self : goal.invariant_of-self
invariant_of-self c =
    let heap = c.slot_of-slot.result.heap in
    let listed = rw c.as_slice.ensures.value at c.slot_of-slot.ensures in
    let there = c.self.invariant.0.known c.args.number c.slot_of-slot.result listed in
    let as_long : length c.remove.new.slots ≡ c.self.inside.slots.len = omega arith in
    rw (with_items_is c.self.inside.slots c.remove.new.slots as_long) (
      one_changed heap c.args.number None c.remove.new.pairs c.self.inside.heaps.items c.self.inside.slots.items c.as_mut_slice.result.now c.remove.new.slots c.self.invariant.0 there c.as_mut_slice.ensures.value c.remove.ensures.kept c.remove.ensures.places,
      room_stays heap c.index_mut.result.now c.remove.new.pairs c.self.inside.heaps.items _ c.self.inside.slots.items c.remove.new.slots c.self.inside.room (slice_get_read c.self.inside.heaps.items _ heap c.index_mut.result.now refl there c.index_mut.ensures.value) refl (omega arith) (omega arith) c.remove.ensures.capacity c.self.invariant.1,
    )

pub returns-clause-gone : goal.returns-clause-gone
returns-clause-gone c =
    let as_long : length c.remove.new.slots ≡ c.self.inside.slots.len = omega arith in
    rw (with_items_is c.self.inside.slots c.remove.new.slots as_long)
    (one_set c.slot_of-slot.result.heap c.args.number None c.remove.new.pairs c.args.self.now c.self.inside.heaps.items c.self.inside.slots.items c.as_mut_slice.result.now c.remove.new.slots c.self.inside.room c.self.inside.room c.self.view_is c.as_mut_slice.ensures.value c.remove.ensures.places)
