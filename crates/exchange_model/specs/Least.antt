-- The least of a list.
use Rattle.std.specs.Prelude.{ℕ, List, [], ◌∷◌, Option, Some, None, nat_lt, if◌then◌else◌}

-- of an item and a later one, the one with the smaller key; with equal keys the item
abbrev pub lesser : {X : Type 0} → (X → ℕ) → X → Option X → X
lesser key x None = x
lesser key x (Some y) = if nat_lt (key y) (key x) then y else x

-- the first item with the least key
unfoldable pub first_least : {X : Type 0} → (X → ℕ) → List X → Option X
first_least key [] = None
first_least key (x ∷ xs) = Some (lesser key x (first_least key xs))
