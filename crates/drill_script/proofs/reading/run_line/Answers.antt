use Rattle.std.proofs.Common.{◌≡◌, Some, ap, sym, ◌∙◌}
use Rattle.drill_script.specs.declared.line.Line.TheVariants.{Run}
use Rattle.drill_script.proofs.SpellLemmas.{run_spelled}
use Rattle.drill_script.proofs.reading.run_line.Goals as goal

pub returns-in_default-clause-only : goal.returns-in_default-clause-only
returns-in_default-clause-only c line spells =
    let s = run_spelled c.args.run c.args.tail.now line spells in
    cc (c.in_ok-line.ensures.only s.0 s.2, c.in_default.is)

pub returns-clause-only : goal.returns-clause-only
returns-clause-only c line spells =
    let s = run_spelled c.args.run c.args.tail.now line spells in
    let same : c.in-Some.line ≡ s.0 = cc (c.in_ok-line.ensures.only s.0 s.2, c.in-Some.is) in
    ap Some (ap Run same ∙ sym s.1)
