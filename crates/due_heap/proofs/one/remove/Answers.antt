use Rattle.std.proofs.Common.{refl, arith}
use Rattle.std.proofs.lemmas.Option.{slice_get_within}
use Rattle.due_heap.proofs.RemoveLemmas.{taken_is, last_may_come, last_listed, last_kept, front_order, replaced_places}
use Rattle.due_heap.proofs.one.remove.Goals as goal

pub unreachable-requires : goal.unreachable-requires
unreachable-requires c =
    let there = slice_get_within c.args.pairs.now.items c.args.slot.at (record { due = c.args.slot.due; number = c.args.number })
    (c.requires.kept.points.from c.args.number c.args.slot c.requires.there refl) in
    omega (arith, there, c.in_default.ensures.cases.0)

pub put-requires-clause-points : goal.put-requires-clause-points
put-requires-clause-points c =
    rw c.as_mut_slice.ensures.value
    (last_may_come c.args.slot c.args.number c.in-Some.last c.pop.new.self.items c.args.slots.now _
    (taken_is c.args.slot c.args.number c.in-Some.last c.pop.new.self.items c.args.pairs.now.items c.args.slots.now c.in-Some.ensures.items c.requires.kept c.requires.there)
    (omega arith))

pub put-requires-clause-order : goal.put-requires-clause-order
put-requires-clause-order c =
    rw c.as_mut_slice.ensures.value
    (front_order c.in-Some.last c.pop.new.self.items c.args.slot.at (rw (← c.in-Some.ensures.items) c.requires.kept.order))

pub put-requires-clause-number : goal.put-requires-clause-number
put-requires-clause-number c =
    last_listed c.args.slot c.args.number c.in-Some.last c.pop.new.self.items c.args.slots.now _
    (taken_is c.args.slot c.args.number c.in-Some.last c.pop.new.self.items c.args.pairs.now.items c.args.slots.now c.in-Some.ensures.items c.requires.kept c.requires.there)

pub returns-then-slot-len-clause-places : goal.returns-then-slot-len-clause-places
returns-then-slot-len-clause-places c =
    replaced_places c.args.slot c.args.number c.in-Some.last c.pop.new.self.items c.args.slots.now _ c.put.new.slots
    (taken_is c.args.slot c.args.number c.in-Some.last c.pop.new.self.items c.args.pairs.now.items c.args.slots.now c.in-Some.ensures.items c.requires.kept c.requires.there)
    (omega arith) c.put.ensures.places

pub returns-else-slot-len-clause-kept : goal.returns-else-slot-len-clause-kept
returns-else-slot-len-clause-kept c =
    last_kept c.args.slot c.args.number c.in-Some.last c.pop.new.self.items c.args.slots.now _
    (taken_is c.args.slot c.args.number c.in-Some.last c.pop.new.self.items c.args.pairs.now.items c.args.slots.now c.in-Some.ensures.items c.requires.kept c.requires.there)
    (omega arith)
