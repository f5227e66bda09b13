-- Bytes in motion: what is known of them, how often a stream failed, and what a run did to its source and its sink. What
-- isn't observable is `None`.
use Rattle.std.specs.Prelude.{◌≡◌, ℕ, ◌+◌, ◌-◌, ◌^◌, ◌≤◌, List, ◌++◌, length, take, min, Option, None, Some}

-- P holds of the value, where it is observable
abbrev pub Told : {X : Type 0} → Option X → (X → Type 0) → Type 0
Told {X} told P = (v : X) → told ≡ Some v → P v

-- this prefix, and then the rest
abbrev pub before : List ℕ → Option (List ℕ) → Option (List ℕ)
before front None = None
before front (Some rest) = Some (front ++ rest)

-- the bytes, and then more
abbrev pub appended : Option (List ℕ) → List ℕ → Option (List ℕ)
appended None more = None
appended (Some told) more = Some (told ++ more)

-- a prefix of at most this many bytes is gone, and nothing else changed
abbrev pub LosesFront : ℕ → Option (List ℕ) → Option (List ℕ) → Type 0
LosesFront most old new = (front : List ℕ) × (length front ≤ most) × (old ≡ before front new)

-- a prefix of these bytes was appended, and nothing else changed
abbrev pub TakesFront : List ℕ → Option (List ℕ) → Option (List ℕ) → Type 0
TakesFront bytes old new = (n : ℕ) × (n ≤ length bytes) × (new ≡ appended old (take n bytes))

-- a count of faults after one more: a u64 that never falls and stays at its last value
abbrev pub one_more : ℕ → ℕ
one_more count = min (count + 1) (2 ^ 64 - 1)

-- the count has risen, or is at the last value
abbrev pub Rose : ℕ → ℕ → Type 0
Rose count later = one_more count ≤ later

-- a source and a sink at one moment: what is left and what was taken, where they are observable, and how often each
-- failed
pub record Flow : Type 0 where
  pub left : Option (List ℕ)
  pub taken : Option (List ℕ)
  pub reads : ℕ
  pub writes : ℕ

abbrev pub flow : Option (List ℕ) → Option (List ℕ) → ℕ → ℕ → Flow
flow left taken reads writes = record { left = left; taken = taken; reads = reads; writes = writes }

-- a source and a sink before and after: what the source had left and has left, what the sink had taken and has taken,
-- and how often each had failed and has
pub record Streams : Type 0 where
  pub left : Option (List ℕ)
  pub rest : Option (List ℕ)
  pub taken : Option (List ℕ)
  pub later : Option (List ℕ)
  pub read_faults : ℕ
  pub later_read_faults : ℕ
  pub write_faults : ℕ
  pub later_write_faults : ℕ

-- from one moment to a later one
abbrev pub between : Flow → Flow → Streams
between start now = record {
  left = start.left;
  rest = now.left;
  taken = start.taken;
  later = now.taken;
  read_faults = start.reads;
  later_read_faults = now.reads;
  write_faults = start.writes;
  later_write_faults = now.writes;
}
