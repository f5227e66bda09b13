-- What stands at a gate.
use Rattle.std.specs.Prelude.{◌≡◌, ◌≢◌, ℕ, ◌+◌, ◌^◌, ◌<◌, ◌≤◌, List, ◌∷◌, ◌++◌, Option, IfSome, length, take, drop}
use Rattle.journal.specs.declared.version.Version.{Version}
use Rattle.journal.specs.declared.reading.Next.{Next}
use Rattle.journal.specs.declared.reading.Next.TheVariants.{Record, Closed, Broken}
use Rattle.journal.specs.Leaf.{width_of, limit_of, length_bytes}

-- these are the bytes of this length
pub record IsLength (version : Version) (len : ℕ) (bytes : List ℕ) : Type 0 where
  pub bytes_are : bytes ≡ length_bytes version len
  pub fits : len < 256 ^ width_of version

-- there are this many bytes behind a gate, and these are the front of them that a length takes
abbrev pub IsHead : Version → ℕ → List ℕ → List ℕ → Type 0
IsHead version count head behind = (count ≡ length behind) × (head ≡ take (width_of version) behind)

-- where the gate behind a record stands
abbrev pub gate_behind : Version → ℕ → List ℕ → ℕ
gate_behind version gate body = gate + 1 + width_of version + length body

-- behind an open gate stands a whole record inside the limit, with this body
abbrev pub IsBodyAt : Version → ℕ → List ℕ → List ℕ → Type 0
IsBodyAt version gate behind body = (gate_behind version gate body < limit_of version)
    × (next : ℕ) × (after : List ℕ) × (behind ≡ length_bytes version (length body) ++ body ++ next ∷ after)

-- or none
abbrev pub HasNoBody : Version → ℕ → List ℕ → Type 0
HasNoBody version gate behind = (body after : List ℕ) (next : ℕ) → behind ≡ length_bytes version (length body) ++ body ++ next ∷ after
    → limit_of version ≤ gate_behind version gate body

-- what was read ahead, where it was, is what stands at a gate: the gate, and the front behind it that a length takes
abbrev pub IsAhead : Version → List ℕ → Option (List ℕ) → Type 0
IsAhead version from ahead = IfSome ahead (λ head. take (1 + width_of version) from ≡ take (1 + width_of version) head)

-- from a gate on the leaf reads so
abbrev pub IsNext : Version → ℕ → List ℕ → Next → Type 0
IsNext version gate leaf (Record body ahead) = ((rest : List ℕ) × (drop gate leaf ≡ 1 ∷ rest) × IsBodyAt version gate rest body)
    × IsAhead version (drop (gate_behind version gate body) leaf) ahead
IsNext version gate leaf (Closed byte) = (byte ≢ 1) × (rest : List ℕ) × (drop gate leaf ≡ byte ∷ rest)
IsNext version gate leaf Broken = (byte : ℕ) (rest : List ℕ) → drop gate leaf ≡ byte ∷ rest → (byte ≡ 1) × HasNoBody version gate rest

-- a closed gate is one that the leaf has
abbrev pub IsThere : ℕ → List ℕ → Next → Type 0
IsThere gate leaf (Record body ahead) = Unit {0}
IsThere gate leaf (Closed byte) = gate < length leaf
IsThere gate leaf Broken = Unit {0}

-- the gate behind a record is inside the limit
abbrev pub IsWithin : Version → ℕ → Next → Type 0
IsWithin version gate (Record body ahead) = gate_behind version gate body < limit_of version
IsWithin version gate (Closed byte) = Unit {0}
IsWithin version gate Broken = Unit {0}
