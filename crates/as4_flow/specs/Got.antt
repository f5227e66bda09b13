-- What a read gave.
use Rattle.std.specs.Prelude.{ℕ, Bool, true, false}
use Rattle.as4_flow.specs.declared.source.Got.{Got}
use Rattle.as4_flow.specs.declared.source.Got.TheVariants.{Gave, End, Failed}

-- P holds of the count that the read gave
abbrev pub IfGave : Got → (ℕ → Type 0) → Type 0
IfGave (Gave n) P = P n
IfGave End P = Unit {0}
IfGave Failed P = Unit {0}

-- the read gave nothing
abbrev pub OnNothing : Got → Type 0 → Type 0
OnNothing (Gave n) P = Unit {0}
OnNothing End P = P
OnNothing Failed P = P

-- P holds unless the read failed
abbrev pub UnlessFailed : Got → Type 0 → Type 0
UnlessFailed (Gave n) P = P
UnlessFailed End P = P
UnlessFailed Failed P = Unit {0}

-- the read failed
abbrev pub is_failed : Got → Bool
is_failed (Gave n) = false
is_failed End = false
is_failed Failed = true
