-- What a clock and a source of nonces give: one answer after another.
use Rattle.std.specs.Prelude.{◌≡◌, ℕ, ◌+◌, Option}
use Rattle.as4_flow.specs.Flow.{Told}

-- 9999-12-31T23:59:59.999Z, in milliseconds since 1970-01-01T00:00:00Z
abbrev pub last_moment : ℕ
last_moment = 253402300799999

-- the answer was the first of those to come, where they are observable, and the others are still to come
pub record Draws (answer : ℕ) (old new : ℕ → Option ℕ) : Type 0 where
  pub first : Told (old 0) (λ told. answer ≡ told)
  pub others : (k : ℕ) → new k ≡ old (k + 1)
