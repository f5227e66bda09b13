use Rattle.drill_script.proofs.SpellLemmas.{counted_spells, counted_spelled, numbered_again}
use Rattle.drill_script.proofs.reading.counted_of.Goals as goal

pub returns-in_err-end-clause-only : goal.returns-in_err-end-clause-only
returns-in_err-end-clause-only c line spells =
    let s = counted_spelled c.args.counted c.args.tail.now line spells in
    cc (c.in_err-end.ensures.only s.0 s.1 s.2.small s.2.tail_is)

pub returns-clause-found : goal.returns-clause-found
returns-clause-found c =
    rw c.counted_line.ensures (counted_spells c.args.counted c.args.tail.now c.in_ok-end.end c.in_ok-end.number c.in_ok-end.ensures.found c.in_ok-end.ensures.range)

pub returns-clause-only : goal.returns-clause-only
returns-clause-only c line spells =
    let s = counted_spelled c.args.counted c.args.tail.now line spells in
    rw c.counted_line.ensures (numbered_again _ c.args.tail.now line s.0 c.in_ok-end.end s.1 c.in_ok-end.number s.2 (c.in_ok-end.ensures.only s.0 s.1 s.2.small s.2.tail_is))
