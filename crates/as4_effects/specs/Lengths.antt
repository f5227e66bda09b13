-- The lengths of bodies.
use Rattle.std.specs.Prelude.{ℕ, ◌+◌, ◌-◌, ◌^◌, List, length, min}

-- the sum plus the number of bytes, at most the greatest number of 64 bits
unfoldable pub grown : ℕ → List ℕ → ℕ
grown sum bytes = min (sum + length bytes) (2 ^ 64 - 1)
