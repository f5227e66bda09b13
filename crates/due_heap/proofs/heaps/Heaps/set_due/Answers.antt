use Rattle.std.proofs.Common.{◌≡◌, Some, length, option_map, ap, sym, refl, ◌∙◌, arith}
use Rattle.std.proofs.lemmas.List.{with_items_is}
use Rattle.std.proofs.lemmas.Option.{slice_get_read}
use Rattle.due_heap.specs.Heaps.{standing_at}
use Rattle.due_heap.specs.Keeping.{place_of}
use Rattle.due_heap.proofs.HeapsLemmas.{slot_some, kept_at, one_changed, one_set, room_stays, standing_is}
use Rattle.due_heap.proofs.heaps.Heaps.set_due.Goals as goal

pub slot_of-slot-requires : goal.slot_of-slot-requires
slot_of-slot-requires c =
    rw c.as_slice.ensures.value
    (slot_some c.args.self.now c.self.inside.heaps.items c.self.inside.slots.items c.self.inside.room c.args.number c.self.view_is c.requires.there)

pub set_due-requires-clause-kept : goal.set_due-requires-clause-kept
set_due-requires-clause-kept c =
    let listed = rw c.as_slice.ensures.value at c.slot_of-slot.ensures in
    let there = c.self.invariant.0.known c.args.number c.slot_of-slot.result listed in
    rw (c.as_mut_slice.ensures.value, c.as_mut_slice-2.ensures.value)
    (kept_at c.slot_of-slot.result.heap c.index_mut.result.now c.self.inside.heaps.items c.self.inside.slots.items c.self.invariant.0 there c.index_mut.ensures.value)

pub invariant_of-self : goal.invariant_of-self
invariant_of-self c =
    let heap = c.slot_of-slot.result.heap in
    let listed = rw c.as_slice.ensures.value at c.slot_of-slot.ensures in
    let there = c.self.invariant.0.known c.args.number c.slot_of-slot.result listed in
    let as_long : length c.set_due.new.slots ≡ c.self.inside.slots.len = omega arith in
    let as_many : length c.set_due.new.pairs ≡ c.index_mut.result.now.len = omega arith in
    let pairs_are = with_items_is c.index_mut.result.now c.set_due.new.pairs as_many in
    rw (with_items_is c.self.inside.slots c.set_due.new.slots as_long) (
      one_changed heap c.args.number (Some (record { heap = heap; due = c.args.due })) _ c.self.inside.heaps.items c.self.inside.slots.items c.as_mut_slice-2.result.now c.set_due.new.slots c.self.invariant.0 there c.as_mut_slice-2.ensures.value (rw pairs_are c.set_due.ensures.kept) c.set_due.ensures.places,
      room_stays heap c.index_mut.result.now _ c.self.inside.heaps.items _ c.self.inside.slots.items c.set_due.new.slots c.self.inside.room (slice_get_read c.self.inside.heaps.items _ heap c.index_mut.result.now refl there c.index_mut.ensures.value) refl (omega arith) (omega arith) refl c.self.invariant.1,
    )

pub returns-clause-placed : goal.returns-clause-placed
returns-clause-placed c =
    let heap = c.slot_of-slot.result.heap in
    let listed = rw c.as_slice.ensures.value at c.slot_of-slot.ensures in
    let as_long : length c.set_due.new.slots ≡ c.self.inside.slots.len = omega arith in
    let stood = sym (ap (standing_at c.args.number) c.self.view_is) ∙ standing_is c.args.number c.self.inside.heaps.items c.self.inside.slots.items c.self.inside.room ∙ ap (option_map place_of) listed in
    rw (with_items_is c.self.inside.slots c.set_due.new.slots as_long, stood)
    (one_set heap c.args.number (Some (record { heap = heap; due = c.args.due })) _ c.args.self.now c.self.inside.heaps.items c.self.inside.slots.items c.as_mut_slice-2.result.now c.set_due.new.slots c.self.inside.room c.self.inside.room c.self.view_is c.as_mut_slice-2.ensures.value c.set_due.ensures.places)
