-- Sums of sizes over lists.
use Rattle.std.proofs.Common.{◌≡◌, ℕ, ◌≤◌, Bool, true, false, List, [], ◌∷◌, Some, map, cond, arith, refl}
use Rattle.std.specs.List.{sum_by, filter, find}
use Rattle.std.proofs.lemmas.List.Sums.{sum_by-cons}
use Rattle.coming_laws.proofs.ChoiceLemmas.{either}

-- sizes of items that a function was applied to
pub sum_by-map : {X Y : Type 0} (f : X → Y) (size : Y → ℕ) (xs : List X) → sum_by size (map f xs) ≡ sum_by (λ x. size (f x)) xs
sum_by-map f size [] = refl
sum_by-map f size (x ∷ xs) = omega (arith, sum_by-cons size (f x) (map f xs), sum_by-cons (λ y. size (f y)) x xs, sum_by-map f size xs)

-- some of the items
pub sum_by-filter : {X : Type 0} (size : X → ℕ) (test : X → Bool) (xs : List X) → sum_by size (filter test xs) ≤ sum_by size xs
sum_by-filter size test [] = omega arith
sum_by-filter size test (x ∷ xs) = by (test x) (sum_by-filter size test xs)
  where
    by : (is : Bool) → sum_by size (filter test xs) ≤ sum_by size xs → sum_by size (cond is (x ∷ filter test xs) (filter test xs)) ≤ sum_by size (x ∷ xs)
    by true others = omega (arith, sum_by-cons size x (filter test xs), sum_by-cons size x xs)
    by false others = omega (arith, sum_by-cons size x xs)

-- one of the items
pub size_found : {X : Type 0} (size : X → ℕ) (test : X → Bool) (xs : List X) (x : X) → find test xs ≡ Some x → size x ≤ sum_by size xs
size_found size test [] x e = absurd cc
size_found size test (first ∷ xs) x e =
    either (test first) (Some first) (find test xs) (Some x) e
    (λ here. let same : size first ≡ size x = cc in omega (arith, sum_by-cons size first xs))
    (λ later. omega (arith, sum_by-cons size first xs, size_found size test xs x later))
