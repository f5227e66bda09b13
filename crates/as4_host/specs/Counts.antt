-- Counts of faults: what a settled stream adds to them, and that none was added.
use Rattle.std.specs.Prelude.{ℕ, zero, suc, ◌<◌}
use Rattle.as4_flow.specs.Flow.{one_more}

-- a count, raised once where these faults are any
abbrev pub raised : ℕ → ℕ → ℕ
raised zero count = count
raised (suc faults) count = one_more count

-- the count hasn't risen, and isn't at the last value of a u64
abbrev pub HasNotRisen : ℕ → ℕ → Type 0
HasNotRisen count later = later < one_more count
