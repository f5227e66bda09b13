use Rattle.std.proofs.Common.{length, ap, arith, length-take}
use Rattle.std.proofs.lemmas.Grind.{common_steps}
use Rattle.journal.proofs.ReadingLemmas.{has_length, no_length, too_long, too_short, whole_body}
use Rattle.journal.specs.Leaf.{width_of}
use Rattle.journal.proofs.reading.body_len.Goals as goal

pub returns-then-head-width-clause-none : goal.returns-then-head-width-clause-none
returns-then-head-width-clause-none c behind is =
    no_length c.args.version c.args.gate behind (omega (arith, c.if-head-width.true, c.width-width.ensures, ap length is.1, length-take (width_of c.args.version) behind))

pub returns-then-saturating_sub-len-clause-none : goal.returns-then-saturating_sub-len-clause-none
returns-then-saturating_sub-len-clause-none c behind is =
    let has = has_length c.args.version c.length_in-len.result 0 behind c.args.head.now is.1 c.length_in-len.ensures in
    too_long c.args.version c.args.gate c.length_in-len.result behind has (grind (arith, common_steps))

pub returns-then-saturating_sub-len-2-clause-none : goal.returns-then-saturating_sub-len-2-clause-none
returns-then-saturating_sub-len-2-clause-none c behind is =
    let has = has_length c.args.version c.length_in-len.result 0 behind c.args.head.now is.1 c.length_in-len.ensures in
    too_short c.args.version c.args.gate c.length_in-len.result behind has (omega (arith, is.0, c.width-width.ensures, c.if-saturating_sub-len-2.true, c.saturating_sub-2.ensures))

pub returns-clause-body : goal.returns-clause-body
returns-clause-body c behind is =
    let has = has_length c.args.version c.length_in-len.result 0 behind c.args.head.now is.1 c.length_in-len.ensures in
    whole_body c.args.version c.args.gate c.length_in-len.result behind has
    (omega (arith, is.0, c.width-width.ensures, c.if-saturating_sub-len-2.false, c.saturating_sub-2.ensures))
    (grind (arith, common_steps))
