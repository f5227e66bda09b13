use Rattle.std.proofs.Common.{◌≡◌, Some, None, take, sym, ◌∙◌}
use Rattle.std.specs.Str.{bytes_eq}
use Rattle.mode_values.specs.ModeMatch.{mode_named}
use Rattle.mode_values.specs.declared.mode.Mode.{Mode}
use Rattle.pmodes.proofs.ListLemmas.{no_repeat_here, repeat_here}
use Rattle.pmodes.proofs.lookup.first_twice.Goals as goal

pub returns-in-Some : goal.returns-in-Some
unfolding mode_named
returns-in-Some c =
    let named : mode_named (take c.loop-at.at c.args.modes.now) c.index-modes-at.result.name ≡ Some c.in-Some.first.now = sym (rw c.in-Some.is at c.mode_named.ensures) in
    sym (c.loop-at.invariant ∙ repeat_here (λ (a b : Mode). bytes_eq a.name b.name) c.args.modes.now c.loop-at.at c.in-Some.first.now c.index-modes-at.result c.loop-at-test.true c.index-modes-at.is named)

pub loop-at-preserved : goal.loop-at-preserved
unfolding mode_named
loop-at-preserved c =
    let unnamed : mode_named (take c.loop-at.at c.args.modes.now) c.index-modes-at.result.name ≡ None = sym (rw c.in_default.is at c.mode_named.ensures) in
    c.loop-at.invariant ∙ sym (no_repeat_here (λ (a b : Mode). bytes_eq a.name b.name) c.args.modes.now c.loop-at.at c.index-modes-at.result c.loop-at-test.true c.index-modes-at.is unnamed)
