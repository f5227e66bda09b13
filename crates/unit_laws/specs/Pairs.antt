-- Two lists, place by place.
use Rattle.std.specs.Prelude.{List, [], ◌∷◌}

-- as many in the one list as in the other, and each is related to the one at its place
abbrev pub Pairwise : {X : Type 0} → (X → X → Type 0) → List X → List X → Type 0
Pairwise related [] [] = Unit {0}
Pairwise related (x ∷ xs) (y ∷ ys) = related x y × Pairwise related xs ys
Pairwise related xs ys = ⊥
