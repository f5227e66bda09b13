use Rattle.std.proofs.Common.{◌≡◌, [], take, drop}
use Rattle.mode_values.specs.ModeMatch.{mode_terms, are_same_terms}
use Rattle.pmodes.specs.ModeList.{first_repeat}
use Rattle.mode_values.specs.declared.mode.Mode.{Mode}
use Rattle.pmodes.proofs.lookup.first_ambiguous.Given as goal

-- the modes so far repeat nothing
abbrev pub invariant-loop-at : goal.invariant-loop-at
invariant-loop-at l =
    first_repeat {X = Mode} (λ a b. are_same_terms (mode_terms a) (mode_terms b)) [] l.modes ≡ first_repeat {X = Mode} (λ a b. are_same_terms (mode_terms a) (mode_terms b)) (take l.at l.modes) (drop l.at l.modes)
