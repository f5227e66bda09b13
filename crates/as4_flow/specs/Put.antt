-- What a write took.
use Rattle.std.specs.Prelude.{ℕ, Bool, true, false}
use Rattle.as4_flow.specs.declared.sink.Put.{Put}
use Rattle.as4_flow.specs.declared.sink.Put.TheVariants.{Took, Failed}

-- P holds of the count that the write took
abbrev pub IfTook : Put → (ℕ → Type 0) → Type 0
IfTook (Took n) P = P n
IfTook Failed P = Unit {0}

-- the write failed
abbrev pub is_refused : Put → Bool
is_refused (Took n) = false
is_refused Failed = true
