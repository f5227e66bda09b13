-- Sums over all views, of which one is known.
use Rattle.std.proofs.Common.{◌≡◌, ℕ, zero, suc, ◌+◌, ◌<◌, ◌≤◌, List, [], ◌∷◌, length, get_or, set, refl, sym, subst, arith}
use Rattle.std.specs.List.{sum_by}
use Rattle.std.proofs.lemmas.List.Sums.{sum_by-cons, sum_by-set, get_or-le-sum_by}
use mathlib.Core.Option.{some, some-injective, some-ne-none}
use lib.ListN.{get_elem?}

module _ {A : Type 0} where
  -- the item at a place, as std's lemmas express it
  at_get : (xs : List A) (i : ℕ) (v : A) → get_elem? xs i ≡ some v → (i < length xs) × (get_or xs i v ≡ v)
  at_get [] i v e = absurd (some-ne-none v (sym e))
  at_get (x ∷ xs) zero v e = (omega arith, some-injective x v e)
  at_get (x ∷ xs) (suc i) v e = let r = at_get xs i v e in (omega arith, r.1)

  -- no view has more than all together
  pub sum_at : (f : A → ℕ) (xs : List A) (i : ℕ) (v : A) → get_elem? xs i ≡ some v → f v ≤ sum_by f xs
  sum_at f xs i v e = let r = at_get xs i v e in subst (λ (y : A). f y ≤ sum_by f xs) r.1 (get_or-le-sum_by f xs i v r.0)

  -- the sum after one view changes
  pub sum_set : (f : A → ℕ) (xs : List A) (i : ℕ) (v w : A) → get_elem? xs i ≡ some v → sum_by f (set xs i w) + f v ≡ sum_by f xs + f w
  sum_set f xs i v w e = let r = at_get xs i v e in subst (λ (y : A). sum_by f (set xs i w) + f y ≡ sum_by f xs + f w) r.1 (sum_by-set f xs i w v r.0)

  -- where f is 0 for all, and g is 0 whenever f is, g is 0 for all
  sum_none : (f g : A → ℕ) (xs : List A) → ((j : ℕ) (u : A) → get_elem? xs j ≡ some u → f u ≡ 0 → g u ≡ 0) → sum_by f xs ≡ 0 → sum_by g xs ≡ 0
  sum_none f g [] idle e = refl
  sum_none f g (x ∷ xs) idle e =
      let cf = sum_by-cons f x xs in
      let cg = sum_by-cons g x xs in
      let rest : sum_by g xs ≡ 0 = sum_none f g xs (λ j u h. idle (suc j) u h) (omega arith) in
      let here : g x ≡ 0 = idle zero x refl (omega arith) in
      omega arith

  -- where one view has all of f, it has all of g
  pub sum_alone : (f g : A → ℕ) (xs : List A) (i : ℕ) (v : A) → get_elem? xs i ≡ some v → ((j : ℕ) (u : A) → get_elem? xs j ≡ some u → f u ≡ 0 → g u ≡ 0) → sum_by f xs ≡ f v → sum_by g xs ≡ g v
  sum_alone f g [] i v at idle e = absurd (some-ne-none v (sym at))
  sum_alone f g (x ∷ xs) zero v at idle e =
      let cf = sum_by-cons f x xs in
      let cg = sum_by-cons g x xs in
      let same : x ≡ v = some-injective x v at in
      let all : sum_by f xs + f v ≡ f v = subst (λ (y : A). sum_by f xs + f y ≡ f v) same (omega arith) in
      let rest : sum_by g xs ≡ 0 = sum_none f g xs (λ j u h. idle (suc j) u h) (omega arith) in
      subst (λ (y : A). sum_by g (x ∷ xs) ≡ g y) same (omega arith)
  sum_alone f g (x ∷ xs) (suc i) v at idle e =
      let cf = sum_by-cons f x xs in
      let cg = sum_by-cons g x xs in
      let most = sum_at f xs i v at in
      let rest : sum_by g xs ≡ g v = sum_alone f g xs i v at (λ j u h. idle (suc j) u h) (omega arith) in
      let here : g x ≡ 0 = idle zero x refl (omega arith) in
      omega arith
