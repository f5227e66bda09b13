-- Names that are compared with one another.
use Rattle.std.specs.Borrow.{Bor}
use Rattle.std.specs.Prelude.{ℕ, List, [], ◌∷◌, Bool, true, not, ◌&&◌, bytes_eq}
use Rattle.std.specs.List.{list_any}

-- no two are equal by this test
abbrev pub differ : {X : Type 0} → (X → X → Bool) → List X → Bool
differ same [] = true
differ same (x ∷ xs) = not (list_any (same x) xs) && differ same xs

-- a name in two parts: an expanded name, or a written name and an empty second part
abbrev pub same_parts : List ℕ × List ℕ → List ℕ × List ℕ → Bool
same_parts a b = bytes_eq a.0 b.0 && bytes_eq a.1 b.1

abbrev pub parts_of : Bor (List ℕ) × Bor (List ℕ) → List ℕ × List ℕ
parts_of name = (name.0.now, name.1.now)
