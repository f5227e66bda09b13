-- Which items a list has, by recursion on the list.
use Rattle.std.proofs.Common.{◌≡◌, ℕ, ◌⊎◌, inl, inr, List, [], ◌∷◌, Bool, true, false, cond, Option, Some, None, refl, sym, ap, ◌∙◌}
use Rattle.std.specs.Prelude.{nat_lt, if◌then◌else◌}
use Rattle.std.specs.List.{find, filter}
use Rattle.exchange_model.specs.Least.{lesser, first_least}

abbrev pub Has : {X : Type 0} → List X → X → Type 0
Has [] x = ⊥
Has (y ∷ ys) x = (y ≡ x) ⊎ Has ys x

-- by the result of the first test
filtered_by : {X : Type 0} (p : X → Bool) (y x : X) (ys : List X) (b : Bool) → p y ≡ b
    → (Has (filter p ys) x → Has ys x × (p x ≡ true)) → Has (cond b (y ∷ filter p ys) (filter p ys)) x
    → Has (y ∷ ys) x × (p x ≡ true)
filtered_by p y x ys true e rest (inl same) = (inl same, sym (ap p same) ∙ e)
filtered_by p y x ys true e rest (inr h) = (inr (rest h).0, (rest h).1)
filtered_by p y x ys false e rest h = (inr (rest h).0, (rest h).1)

-- an item that a filter keeps passes
pub has_filtered : {X : Type 0} (p : X → Bool) (xs : List X) (x : X) → Has (filter p xs) x → Has xs x × (p x ≡ true)
has_filtered p [] x h = absurd h
has_filtered p (y ∷ ys) x h = filtered_by p y x ys (p y) refl (has_filtered p ys x) h

-- by the result of the first test
found_by : {X : Type 0} (p : X → Bool) (y x : X) (ys : List X) (b : Bool) → p y ≡ b
    → (find p ys ≡ Some x → Has ys x × (p x ≡ true)) → cond b (Some y) (find p ys) ≡ Some x → Has (y ∷ ys) x × (p x ≡ true)
found_by p y x ys true e rest h = let same : y ≡ x = cc in (inl same, sym (ap p same) ∙ e)
found_by p y x ys false e rest h = (inr (rest h).0, (rest h).1)

-- an item that is found is in the list, and passes
pub has_found : {X : Type 0} (p : X → Bool) (xs : List X) (x : X) → find p xs ≡ Some x → Has xs x × (p x ≡ true)
has_found p [] x h = absurd cc
has_found p (y ∷ ys) x h = found_by p y x ys (p y) refl (has_found p ys x) h

-- the lesser of an item and a later one
lesser_either : {X : Type 0} (key : X → ℕ) (x z : X) (xs : List X) (least : Option X) → ((y : X) → least ≡ Some y → Has xs y)
    → lesser key x least ≡ z → Has (x ∷ xs) z
lesser_either key x z xs None there e = inl e
lesser_either key x z xs (Some y) there e =
    lesser_by (nat_lt (key y) (key x)) e
  where
    lesser_by : (b : Bool) → (if b then y else x) ≡ z → Has (x ∷ xs) z
    lesser_by true same = inr (there z (ap Some same))
    lesser_by false same = inl same

-- the least of a list is in it
pub first_least_has : {X : Type 0} (key : X → ℕ) (xs : List X) (z : X) → first_least key xs ≡ Some z → Has xs z
unfolding first_least
first_least_has key [] z e = absurd cc
first_least_has key (x ∷ xs) z e =
    lesser_either key x z xs (first_least key xs) (λ y. first_least_has key xs y) cc
