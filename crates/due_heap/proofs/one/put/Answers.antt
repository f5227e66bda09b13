use Rattle.due_heap.proofs.PointLemmas.{put_points}
use Rattle.due_heap.proofs.PutLemmas.{put_is, put_places}
use Rattle.due_heap.proofs.one.put.Goals as goal

pub restore-requires-clause-points : goal.restore-requires-clause-points
restore-requires-clause-points c =
    put_points c.args.heap c.args.at c.args.pair c.args.pairs.now _ c.args.slots.now c.note.new.slots c.requires.points
    (put_is c.args.heap c.args.at c.args.pair c.args.pairs.now c.args.slots.now c.note.new.slots c.requires.place c.requires.number c.note.ensures)

pub returns-clause-places : goal.returns-clause-places
returns-clause-places c =
    put_places c.args.heap c.args.at c.args.pair c.args.pairs.now _ c.restore.new.pairs c.args.slots.now c.note.new.slots c.restore.new.slots c.requires.points
    (put_is c.args.heap c.args.at c.args.pair c.args.pairs.now c.args.slots.now c.note.new.slots c.requires.place c.requires.number c.note.ensures)
    c.restore.ensures.pairs
