-- What holds of a journal while it is read, and once it has been read.
use Rattle.std.specs.Prelude.{◌≡◌, ℕ, ◌<◌, List, ◌∷◌, ◌++◌, None, Some, length}
use Rattle.as4_disk.specs.declared.disk.Disk.{Ghosts as DiskMeaning}
use Rattle.journal.specs.declared.version.Version.TheVariants.{Two}
use Rattle.journal.specs.declared.journal.Journal.{Journal}
use Rattle.journal.specs.Leaf.{limit_of, front_of}
use Rattle.journal.specs.Reading.{IsAhead}
use Rattle.journal.specs.Settled.{IsSettled, Reads}

-- These records were read so far, and the journal is at the next gate, of which something may have been read ahead.
-- Where that gate is open, the leaf isn't new.
pub record HasRead {D : Type 0} (M : DiskMeaning D) (journal : Journal D) (bodies : List (List ℕ)) : Type 0 where
  pub next : ℕ
  pub rest : List ℕ
  pub settled : IsSettled M journal.disk journal.is_second (front_of journal.version bodies ++ next ∷ rest)
  pub place : journal.gate ≡ length (front_of journal.version bodies)
  pub within : length (front_of journal.version bodies) < limit_of journal.version
  pub made : next ≡ 1 → 9 < length (front_of journal.version bodies ++ next ∷ rest)
  pub ahead : IsAhead journal.version (next ∷ rest) journal.ahead

-- All records were read, and these are they: each crash leaves them, followed by a closed gate 0, of which nothing is kept
-- as read ahead.
pub record HasRecords {D : Type 0} (M : DiskMeaning D) (journal : Journal D) (bodies : List (List ℕ)) : Type 0 where
  pub rest : List ℕ
  pub settled : IsSettled M journal.disk journal.is_second (front_of journal.version bodies ++ 0 ∷ rest)
  pub place : journal.gate ≡ length (front_of journal.version bodies)
  pub within : length (front_of journal.version bodies) < limit_of journal.version
  pub ahead : journal.ahead ≡ None

-- These are the journal's records, and a fold is open: what a read gives of the other leaf is a front with these.
pub record HasFold {D : Type 0} (M : DiskMeaning D) (journal : Journal D) (bodies folded : List (List ℕ)) : Type 0 where
  pub rest : List ℕ
  pub settled : IsSettled M journal.disk journal.is_second (front_of journal.version bodies ++ 0 ∷ rest)
  pub place : journal.gate ≡ length (front_of journal.version bodies)
  pub within : length (front_of journal.version bodies) < limit_of journal.version
  pub ahead : journal.ahead ≡ None
  pub other : Reads M journal.disk journal.is_second (front_of Two folded)
  pub fold_place : journal.fold ≡ Some (length (front_of Two folded))
  pub fold_within : length (front_of Two folded) < limit_of Two
