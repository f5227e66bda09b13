use Rattle.std.proofs.Common.{◌≡◌, Some, None, take, sym, ◌∙◌}
use Rattle.std.specs.List.{find}
use Rattle.mode_values.specs.ModeMatch.{mode_terms, are_same_terms}
use Rattle.mode_values.specs.declared.mode.Mode.{Mode}
use Rattle.pmodes.proofs.ListLemmas.{no_repeat_here, repeat_here}
use Rattle.pmodes.proofs.lookup.first_ambiguous.Goals as goal

pub returns-in-Some : goal.returns-in-Some
returns-in-Some c =
    let found : find (λ (other : Mode). are_same_terms (mode_terms other) (mode_terms c.index-modes-at.result)) (take c.loop-at.at c.args.modes.now) ≡ Some c.in-Some.first.now = sym (rw c.in-Some.is at c.overlapping.ensures) in
    sym (c.loop-at.invariant ∙ repeat_here (λ (a b : Mode). are_same_terms (mode_terms a) (mode_terms b)) c.args.modes.now c.loop-at.at c.in-Some.first.now c.index-modes-at.result c.loop-at-test.true c.index-modes-at.is found)

pub loop-at-preserved : goal.loop-at-preserved
loop-at-preserved c =
    let none : find (λ (other : Mode). are_same_terms (mode_terms other) (mode_terms c.index-modes-at.result)) (take c.loop-at.at c.args.modes.now) ≡ None = sym (rw c.in_default.is at c.overlapping.ensures) in
    c.loop-at.invariant ∙ sym (no_repeat_here (λ (a b : Mode). are_same_terms (mode_terms a) (mode_terms b)) c.args.modes.now c.loop-at.at c.index-modes-at.result c.loop-at-test.true c.index-modes-at.is none)
