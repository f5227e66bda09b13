-- What a read leaves of a journal: all that it has.
use Rattle.std.specs.Prelude.{◌≡◌, ℕ, List}
use Rattle.as4_disk.specs.Leaving.{Quiet}
use Rattle.as4_disk.specs.declared.disk.Disk.{Ghosts as DiskMeaning}
use Rattle.journal.specs.State.{HasFold, HasRecords}
use Rattle.journal.specs.declared.journal.Journal.{Journal}

-- the gate, the version, the records and an open fold are as they were, and nothing was written
pub record StaysJournal {D : Type 0} (M : DiskMeaning D) (old new : Journal D) : Type 0 where
  pub gate : new.gate ≡ old.gate
  pub version : new.version ≡ old.version
  pub fold : new.fold ≡ old.fold
  pub records : (bodies : List (List ℕ)) → HasRecords M old bodies → HasRecords M new bodies
  pub folds : (bodies folded : List (List ℕ)) → HasFold M old bodies folded → HasFold M new bodies folded
  pub quiet : Quiet M old.disk new.disk
