use Rattle.std.proofs.Common.{◌≡◌, Some, length, refl, arith}
use Rattle.std.proofs.lemmas.List.{with_items_is}
use Rattle.std.proofs.lemmas.Option.{slice_get_read}
use Rattle.due_heap.proofs.HeapsLemmas.{has_room, kept_at, slot_none, one_changed, one_set}
use Rattle.due_heap.proofs.heaps.Heaps.insert.Goals as goal

pub insert-requires-clause-kept : goal.insert-requires-clause-kept
insert-requires-clause-kept c =
    let room = has_room c.args.self.now c.self.inside.heaps.items c.self.inside.slots.items c.self.inside.room (record { heap = c.args.heap; number = c.args.number }) c.self.view_is c.requires.room c.self.invariant.1 in
    rw c.as_mut_slice.ensures.value
    (kept_at c.args.heap c.index_mut.result.now c.self.inside.heaps.items c.self.inside.slots.items c.self.invariant.0 room.heap c.index_mut.ensures.value)

pub insert-requires-clause-room : goal.insert-requires-clause-room
insert-requires-clause-room c =
    let room = has_room c.args.self.now c.self.inside.heaps.items c.self.inside.slots.items c.self.inside.room (record { heap = c.args.heap; number = c.args.number }) c.self.view_is c.requires.room c.self.invariant.1 in
    room.spare c.index_mut.result.now (slice_get_read c.self.inside.heaps.items _ c.args.heap c.index_mut.result.now refl room.heap c.index_mut.ensures.value)

pub insert-requires-clause-new : goal.insert-requires-clause-new
insert-requires-clause-new c =
    rw c.as_mut_slice.ensures.value
    (slot_none c.args.self.now c.self.inside.heaps.items c.self.inside.slots.items c.self.inside.room c.args.number c.self.view_is c.requires.new)

pub invariant_of-self : goal.invariant_of-self
invariant_of-self c =
    let room = has_room c.args.self.now c.self.inside.heaps.items c.self.inside.slots.items c.self.inside.room (record { heap = c.args.heap; number = c.args.number }) c.self.view_is c.requires.room c.self.invariant.1 in
    let as_long : length c.insert.new.slots ≡ c.self.inside.slots.len = omega arith in
    rw (with_items_is c.self.inside.slots c.insert.new.slots as_long) (
      one_changed c.args.heap c.args.number (Some (record { heap = c.args.heap; due = c.args.due })) c.insert.new.pairs c.self.inside.heaps.items c.self.inside.slots.items c.as_mut_slice.result.now c.insert.new.slots c.self.invariant.0 room.heap c.as_mut_slice.ensures.value c.insert.ensures.kept c.insert.ensures.places,
      tt,
    )

pub returns-clause-placed : goal.returns-clause-placed
returns-clause-placed c =
    let as_long : length c.insert.new.slots ≡ c.self.inside.slots.len = omega arith in
    rw (with_items_is c.self.inside.slots c.insert.new.slots as_long)
    (one_set c.args.heap c.args.number (Some (record { heap = c.args.heap; due = c.args.due })) c.insert.new.pairs c.args.self.now c.self.inside.heaps.items c.self.inside.slots.items c.as_mut_slice.result.now c.insert.new.slots c.self.inside.room _ c.self.view_is c.as_mut_slice.ensures.value c.insert.ensures.places)
