use Rattle.drill_script.proofs.SpellLemmas.{lost_spelled, lost_spells, arrival_again}
use Rattle.drill_script.proofs.reading.lost_of.Goals as goal

pub returns-in_err-end-clause-only : goal.returns-in_err-end-clause-only
returns-in_err-end-clause-only c line spells =
    let s = lost_spelled c.args.tail.now line spells in
    cc (c.in_err-end.ensures.only s.0 s.1 s.2 s.3.small s.3.tail_is)

pub returns-clause-only : goal.returns-clause-only
returns-clause-only c line spells =
    let s = lost_spelled c.args.tail.now line spells in
    arrival_again _ c.args.tail.now line s.0 c.in_ok-end.end s.1 c.in_ok-end.from s.2 c.in_ok-end.package s.3 (c.in_ok-end.ensures.only s.0 s.1 s.2 s.3.small s.3.tail_is)

pub returns-clause-found : goal.returns-clause-found
returns-clause-found c =
    lost_spells c.args.tail.now c.in_ok-end.end c.in_ok-end.from c.in_ok-end.package c.in_ok-end.ensures.found c.in_ok-end.ensures.range
