use Rattle.std.proofs.Common.{◌≡◌, [], take, drop}
use Rattle.std.specs.Str.{bytes_eq}
use Rattle.pmodes.specs.ModeList.{first_repeat}
use Rattle.mode_values.specs.declared.mode.Mode.{Mode}
use Rattle.pmodes.proofs.lookup.first_twice.Given as goal

-- the modes so far repeat nothing
abbrev pub invariant-loop-at : goal.invariant-loop-at
invariant-loop-at l =
    first_repeat {X = Mode} (λ a b. bytes_eq a.name b.name) [] l.modes ≡ first_repeat {X = Mode} (λ a b. bytes_eq a.name b.name) (take l.at l.modes) (drop l.at l.modes)
