-- Submissions in rising order of number.
use Rattle.std.specs.Prelude.{ℕ, ◌+◌, ◌≤◌, List, [], ◌∷◌}
use Rattle.channels.specs.declared.waiting.Waiting.{Waiting}

-- each number is greater than the one before it, and none is less than `low`
unfoldable pub RisesFrom : ℕ → List Waiting → Type 0
RisesFrom low [] = Unit {0}
RisesFrom low (w ∷ waiting) = (low ≤ w.number) × RisesFrom (w.number + 1) waiting
