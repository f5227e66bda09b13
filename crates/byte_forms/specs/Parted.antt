-- Bytes without one byte, and bytes cut at its first place.
use Rattle.std.specs.Prelude.{◌≢◌, ℕ, List, ◌∷◌, ◌++◌}
use Rattle.std.specs.List.{All}

-- the byte is nowhere in the bytes
unfoldable pub Lacks : ℕ → List ℕ → Type 0
Lacks byte bytes = All (λ b. b ≢ byte) bytes

-- a prefix, the byte, and the rest
abbrev pub parted : ℕ → List ℕ → List ℕ → List ℕ
parted byte front rest = front ++ byte ∷ rest
