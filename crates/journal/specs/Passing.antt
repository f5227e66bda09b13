-- What holds of the disk once a gate has been passed.
use Rattle.std.specs.Prelude.{◌≡◌, ◌≢◌, ℕ, ◌<◌, Bool, List, [], ◌∷◌, ◌++◌, length}
use Rattle.as4_disk.specs.declared.disk.Disk.{Ghosts as DiskMeaning}
use Rattle.journal.specs.declared.version.Version.{Version}
use Rattle.journal.specs.declared.reading.Next.{Next}
use Rattle.journal.specs.declared.reading.Next.TheVariants.{Record, Closed, Broken}
use Rattle.journal.specs.Leaf.{limit_of, front_of}
use Rattle.journal.specs.Reading.{HasNoBody, IsAhead}
use Rattle.journal.specs.Settled.{IsSettled}

-- After these records this byte was the gate, and then came the rest. A record is passed, with what was read ahead; a
-- closed gate is 0 now, and a broken one is as it was.
abbrev pub Passes : {D : Type 0} → DiskMeaning D → D → Bool → Version → List (List ℕ) → ℕ → List ℕ → Next → Type 0
Passes M disk is_second version bodies byte rest (Record body ahead) =
    (next : ℕ) × (after : List ℕ) × IsSettled M disk is_second (front_of version (bodies ++ body ∷ []) ++ next ∷ after)
    × (length (front_of version (bodies ++ body ∷ [])) < limit_of version) × IsAhead version (next ∷ after) ahead
Passes M disk is_second version bodies byte rest (Closed met) =
    (byte ≢ 1) × IsSettled M disk is_second (front_of version bodies ++ 0 ∷ rest)
Passes M disk is_second version bodies byte rest Broken =
    (byte ≡ 1) × HasNoBody version (length (front_of version bodies)) rest

-- nothing was written
abbrev pub IsQuiet : Next → Type 0 → Type 0
IsQuiet (Record body ahead) quiet = quiet
IsQuiet (Closed met) quiet = Unit {0}
IsQuiet Broken quiet = quiet
