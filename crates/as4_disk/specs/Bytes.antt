-- What a write and a cut make of the bytes of a part, done and cut short by a crash.
use Rattle.std.specs.Prelude.{◌≡◌, ℕ, ◌+◌, ◌≤◌, min, max, List, ◌++◌, length, take, drop}

-- these bytes at this place, over what was there and past the end; the others are as they were
abbrev pub overwritten : ℕ → List ℕ → List ℕ → List ℕ
overwritten at bytes old = take at old ++ bytes ++ drop (at + length bytes) old

abbrev pub IsOverwritten : ℕ → List ℕ → List ℕ → List ℕ → Type 0
IsOverwritten at bytes old new = new ≡ overwritten at bytes old

-- a write of n bytes that a crash cut short: any bytes in the range and past the old end, the same elsewhere. Where the
-- old bytes end before the range, any bytes stand between
pub record Torn (at n : ℕ) (old new : List ℕ) : Type 0 where
  pub before : take (min at (length old)) new ≡ take at old
  pub after : drop (at + n) new ≡ drop (at + n) old
  pub no_shorter : length old ≤ length new
  pub no_longer : length new ≤ max (length old) (at + n)

-- the front of this length
abbrev pub IsCut : ℕ → List ℕ → List ℕ → Type 0
IsCut len old new = new ≡ take len old

-- a cut to this length that a crash cut short: a front of at least this length, or all where there is less
pub record TornCut (len : ℕ) (old new : List ℕ) : Type 0 where
  pub no_shorter : min len (length old) ≤ length new
  pub front : take (length new) old ≡ new
