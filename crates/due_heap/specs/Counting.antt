-- The number of pairs that are due by a moment.
use Rattle.std.specs.Prelude.{ℕ, zero, suc, ◌+◌, ◌-◌, ◌/◌, ◌==◌, ◌&&◌, nat_lt, nat_le, if◌then◌else◌, List, [], ◌∷◌, Bool, false, Option, Some, None}
use Rattle.due_heap.specs.Heaps.{Place}
use Rattle.due_heap.specs.declared.pair.Pair.{Pair}

-- it is in this heap, and due by this moment
abbrev pub is_due_in : ℕ → ℕ → Option Place → Bool
is_due_in heap moment None = false
is_due_in heap moment (Some place) = (place.heap == heap) && nat_le place.due moment

-- 1 where a place is this one or below it, found within `steps` steps up, and else 0
unfoldable pub under_in : ℕ → ℕ → ℕ → ℕ
under_in zero at i = 0
under_in (suc steps) at i = if i == at then 1 else if nat_lt i at then 0 else under_in steps at ((i - 1) / 2)

unfoldable pub under : ℕ → ℕ → ℕ
under at i = under_in (suc i) at i

-- a sum over a list, with the place of each, from a number on
unfoldable pub sum_from : (ℕ → Pair → ℕ) → ℕ → List Pair → ℕ
sum_from f k [] = 0
sum_from f k (pair ∷ pairs) = f k pair + sum_from f (suc k) pairs

-- the number of pairs at a place and below it that are due by a moment
abbrev pub due_under : ℕ → ℕ → ℕ → Pair → ℕ
due_under moment at i pair = if nat_le pair.due moment then under at i else 0

unfoldable pub count_under : ℕ → ℕ → List Pair → ℕ
count_under moment at pairs = sum_from (due_under moment at) 0 pairs
