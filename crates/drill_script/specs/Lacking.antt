-- Bytes cut at a space.
use Rattle.std.specs.Prelude.{ℕ, List, ◌∷◌, ◌++◌}

-- a prefix, a space, and the rest
abbrev pub spaced : List ℕ → List ℕ → List ℕ
spaced front rest = front ++ 32 ∷ rest
