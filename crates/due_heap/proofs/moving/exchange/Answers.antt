use Rattle.std.proofs.Common.{arith}
use Rattle.due_heap.proofs.ExchangeLemmas.{exchange_within, exchange_moves}
use Rattle.due_heap.proofs.moving.exchange.Goals as goal

pub note-requires : goal.note-requires
note-requires c = (exchange_within c.args.heap c.args.a c.args.b c.args.pairs.now c.swap.new.self c.args.slots.now c.requires.points c.requires.a c.requires.b c.swap.ensures.after).0

pub note-requires-2 : goal.note-requires-2
note-requires-2 c =
    let within = (exchange_within c.args.heap c.args.a c.args.b c.args.pairs.now c.swap.new.self c.args.slots.now c.requires.points c.requires.a c.requires.b c.swap.ensures.after).1 in
    omega (arith, within, c.note.auto.slots)

pub returns-clause-pairs : goal.returns-clause-pairs
returns-clause-pairs c =
    exchange_moves c.args.heap c.args.a c.args.b c.args.pairs.now c.swap.new.self c.args.slots.now c.note.new.slots c.note-2.new.slots c.requires.points c.requires.a c.requires.b c.requires.two c.swap.ensures.after c.note.ensures c.note-2.ensures
