-- A leaf of the journal: its bytes, its records, and where it is no journal.
use Rattle.std.specs.Prelude.{◌≡◌, ◌≢◌, ◌⊎◌, ℕ, ◌^◌, ◌<◌, ◌≤◌, List, [], ◌∷◌, ◌++◌, length, take, flat_map}
use Rattle.std.specs.Int.{w32, w64, to_be_bytes}
use Rattle.journal.specs.declared.version.Version.{Version}
use Rattle.journal.specs.declared.version.Version.TheVariants.{One, Two}

abbrev pub number_of : Version → ℕ
number_of One = 1
number_of Two = 2

-- AS4JNL1 or AS4JNL2, and a line feed
unfoldable pub magic_of : Version → List ℕ
magic_of One = 65 ∷ 83 ∷ 52 ∷ 74 ∷ 78 ∷ 76 ∷ 49 ∷ 10 ∷ []
magic_of Two = 65 ∷ 83 ∷ 52 ∷ 74 ∷ 78 ∷ 76 ∷ 50 ∷ 10 ∷ []

-- the leaf begins with the magic of this version
abbrev pub HasMagic : Version → List ℕ → Type 0
HasMagic version leaf = take 8 leaf ≡ magic_of version

-- how many bytes a length has
abbrev pub width_of : Version → ℕ
width_of One = 4
width_of Two = 8

-- how many bytes a leaf may have, up to its last gate
abbrev pub limit_of : Version → ℕ
limit_of One = 2 ^ 30
limit_of Two = 2 ^ 32

-- a length, big endian
unfoldable pub length_bytes : Version → ℕ → List ℕ
length_bytes One n = to_be_bytes w32 n
length_bytes Two n = to_be_bytes w64 n

-- an open gate, the body's length, and the body
unfoldable pub record_of : Version → List ℕ → List ℕ
record_of version body = 1 ∷ length_bytes version (length body) ++ body

-- the magic and these records: all up to the next gate
unfoldable pub front_of : Version → List (List ℕ) → List ℕ
front_of version bodies = magic_of version ++ flat_map (record_of version) bodies

-- a new record: an open gate, length, body, and a closed gate
abbrev pub frame_of : List ℕ → List ℕ
frame_of body = record_of Two body ++ 0 ∷ []

-- The leaf has these records, and behind them a gate that is closed: any byte but 1. What stands behind that is ignored.
pub record IsLeaf (version : Version) (bodies : List (List ℕ)) (gate : ℕ) (rest leaf : List ℕ) : Type 0 where
  pub bytes : leaf ≡ front_of version bodies ++ gate ∷ rest
  pub closed : gate ≢ 1
  pub within : length (front_of version bodies) < limit_of version

-- behind the closed gate of these records stands a whole record with this body, and a gate 0
pub record IsPending (version : Version) (bodies : List (List ℕ)) (body rest : List ℕ) : Type 0 where
  pub within : length (front_of version (bodies ++ body ∷ [])) < limit_of version
  pub after : List ℕ
  pub bytes : rest ≡ length_bytes version (length body) ++ body ++ 0 ∷ after

-- a leaf of at most 9 bytes is a new one, whatever they are
abbrev pub IsNew : List ℕ → Type 0
IsNew leaf = length leaf ≤ 9

-- a leaf of this version, and no new one
abbrev pub IsOfVersion : Version → List ℕ → Type 0
IsOfVersion version leaf = (9 < length leaf) × HasMagic version leaf

-- the records of a leaf
abbrev pub Lists : List (List ℕ) → List ℕ → Type 0
Lists bodies leaf = (IsNew leaf × (bodies ≡ [])) ⊎ ((version : Version) × (gate : ℕ) × (rest : List ℕ) × IsLeaf version bodies gate rest leaf)

-- a closed gate that isn't 0 has a whole record behind it, the pending one
abbrev pub IsWholeBehind : Version → List (List ℕ) → ℕ → List ℕ → Type 0
IsWholeBehind version bodies gate rest = (gate ≡ 0) ⊎ ((body : List ℕ) × IsPending version bodies body rest)

-- a leaf with these records from which a journal can go on after a crash
abbrev pub IsWholeLeaf : List (List ℕ) → List ℕ → Type 0
IsWholeLeaf bodies leaf = (IsNew leaf × (bodies ≡ []))
    ⊎ ((version : Version) × (gate : ℕ) × (rest : List ℕ) × IsLeaf version bodies gate rest leaf × IsWholeBehind version bodies gate rest)

-- the leaf begins with these records and an open gate, and no whole record inside the limit stands behind it
pub record IsCutShort (version : Version) (bodies : List (List ℕ)) (rest leaf : List ℕ) : Type 0 where
  pub bytes : leaf ≡ front_of version bodies ++ 1 ∷ rest
  pub within : length (front_of version bodies) < limit_of version
  pub not_whole : (body after : List ℕ) (gate : ℕ) → rest ≡ length_bytes version (length body) ++ body ++ gate ∷ after
      → limit_of version ≤ length (front_of version (bodies ++ body ∷ []))

-- The leaf is no journal, and this is where: at 0 where neither magic stands there, else at the gate whose record is cut
-- short.
abbrev pub IsBroken : ℕ → List ℕ → Type 0
IsBroken at leaf = (9 < length leaf) × (((at ≡ 0) × ((version : Version) → take 8 leaf ≢ magic_of version))
    ⊎ ((version : Version) × (bodies : List (List ℕ)) × (rest : List ℕ) × (at ≡ length (front_of version bodies)) × IsCutShort version bodies rest leaf))
