use Rattle.std.proofs.Common.{arith}
use Rattle.drill_script.proofs.SpellLemmas.{tick_spelled, found_parts, numbered_again}
use Rattle.drill_script.proofs.stoppable.tick_of.Goals as goal

pub returns-in_err-end-clause-only : goal.returns-in_err-end-clause-only
returns-in_err-end-clause-only c line spells =
    let s = tick_spelled c.args.tail.now line spells in
    cc (c.in_err-end.ensures.only s.0 s.1 s.2.small s.2.tail_is)

pub returns-then-moment-gt-MAX_MOMENT-clause-only : goal.returns-then-moment-gt-MAX_MOMENT-clause-only
returns-then-moment-gt-MAX_MOMENT-clause-only c line spells =
    let s = tick_spelled c.args.tail.now line spells in
    let same = found_parts s.0 c.in_ok-end.end s.1 c.in_ok-end.moment (c.in_ok-end.ensures.only s.0 s.1 s.2.small s.2.tail_is) in
    absurd (omega (arith, same.1, s.3, c.if-moment-gt-MAX_MOMENT.true))

pub returns-clause-only : goal.returns-clause-only
returns-clause-only c line spells =
    let s = tick_spelled c.args.tail.now line spells in
    numbered_again _ c.args.tail.now line s.0 c.in_ok-end.end s.1 c.in_ok-end.moment s.2 (c.in_ok-end.ensures.only s.0 s.1 s.2.small s.2.tail_is)
