use Rattle.drill_script.proofs.SpellLemmas.{ask_spells, ask_spelled}
use Rattle.drill_script.proofs.reading.ask_of.Goals as goal

pub returns-in_default-clause-only : goal.returns-in_default-clause-only
returns-in_default-clause-only c line spells =
    let s = ask_spelled c.args.tail.now line spells in
    cc (c.in_ok-end.ensures.only s.0 s.1 s.2.named s.2.tail_is, c.in_default.is)

pub returns-clause-found : goal.returns-clause-found
returns-clause-found c =
    let read = rw c.in-Some.is at c.in_ok-end.ensures.found in
    ask_spells c.args.tail.now c.in-Some.end c.in-Some.mode read.0 read.1
