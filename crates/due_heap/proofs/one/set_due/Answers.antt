use Rattle.std.proofs.Common.{refl}
use Rattle.std.proofs.lemmas.Option.{slice_get_within}
use Rattle.due_heap.proofs.PlaceLemmas.{slot_within}
use Rattle.due_heap.proofs.PutLemmas.{points_but, order_but}
use Rattle.due_heap.proofs.one.set_due.Goals as goal

pub put-requires-clause-points : goal.put-requires-clause-points
put-requires-clause-points c =
    points_but c.args.pairs.now c.args.slots.now c.args.slot c.args.pair.number c.requires.kept.points c.requires.there

pub put-requires-clause-order : goal.put-requires-clause-order
put-requires-clause-order c = order_but c.args.pairs.now c.args.slot.at c.requires.kept.order

pub put-requires-clause-place : goal.put-requires-clause-place
put-requires-clause-place c =
    slice_get_within c.args.pairs.now c.args.slot.at (record { due = c.args.slot.due; number = c.args.pair.number })
    (c.requires.kept.points.from c.args.pair.number c.args.slot c.requires.there refl)

pub put-requires-clause-number : goal.put-requires-clause-number
put-requires-clause-number c = slot_within c.args.slots.now c.args.pair.number c.args.slot c.requires.there
