-- Items that pass two tests, one after the other.
use Rattle.std.proofs.Common.{◌≡◌, List, [], ◌∷◌, Bool, true, false, cond, ◌&&◌, refl, ap}
use Rattle.std.specs.List.{filter}

pub filter-filter : {X : Type 0} (p q : X → Bool) (xs : List X) → filter p (filter q xs) ≡ filter (λ x. q x && p x) xs
filter-filter p q [] = refl
filter-filter p q (x ∷ xs) =
    elim (q x) as (λ b. filter p (cond b (x ∷ filter q xs) (filter q xs)) ≡ cond (b && p x) (x ∷ filter (λ x. q x && p x) xs) (filter (λ x. q x && p x) xs)) [
      | true ↦
          elim (p x) as (λ b. cond b (x ∷ filter p (filter q xs)) (filter p (filter q xs)) ≡ cond b (x ∷ filter (λ x. q x && p x) xs) (filter (λ x. q x && p x) xs))
          [ true ↦ ap (λ ys. x ∷ ys) (filter-filter p q xs) | false ↦ filter-filter p q xs ]
      | false ↦ filter-filter p q xs
    ]
