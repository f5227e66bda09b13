-- Why a call of the journal gave no answer, and what the disk's count of faults says of it.
use Rattle.std.specs.Prelude.{◌≡◌, ℕ, Result, Ok, Err, is_some}
use Rattle.as4_disk.specs.declared.disk.Disk.{Ghosts as DiskMeaning}
use Rattle.as4_disk.specs.Faults.{Rises}
use Rattle.journal.specs.declared.fault.JournalFault.{JournalFault}
use Rattle.journal.specs.declared.fault.JournalFault.TheVariants.{Disk, NotJournal, Full, NoMemory}

-- The count rises where the fault is that the disk failed, which reports it before and after, and stays at any other.
abbrev pub IsCause : ℕ → ℕ → JournalFault → Type 0
IsCause before now (Disk x y) = (x ≡ before) × (y ≡ now) × Rises x y
IsCause before now (NotJournal at) = now ≡ before
IsCause before now (Full size need) = now ≡ before
IsCause before now NoMemory = now ≡ before

-- what it says of a call: it stays at Ok too
abbrev pub TellsCause : {T : Type 0} → ℕ → ℕ → Result T JournalFault → Type 0
TellsCause before now (Ok value) = now ≡ before
TellsCause before now (Err fault) = IsCause before now fault

-- the disk's content is observable as before, and its count of faults shows the cause
pub record CountsFault {D T : Type 0} (M : DiskMeaning D) (old new : D) (result : Result T JournalFault) : Type 0 where
  pub tells : is_some (M.seen new) ≡ is_some (M.seen old)
  pub cause : TellsCause (M.fault_count old) (M.fault_count new) result

-- it is anything but that the journal is full
abbrev pub IsOpeningFault : JournalFault → Type 0
IsOpeningFault (NotJournal at) = Unit {0}
IsOpeningFault (Disk before after) = Unit {0}
IsOpeningFault NoMemory = Unit {0}
IsOpeningFault (Full size need) = ⊥

-- it is that the disk failed, or that there was no memory
abbrev pub IsReadFault : JournalFault → Type 0
IsReadFault (Disk before after) = Unit {0}
IsReadFault NoMemory = Unit {0}
IsReadFault (NotJournal at) = ⊥
IsReadFault (Full size need) = ⊥

-- it is that the journal is full, or that the disk failed
abbrev pub IsAppendFault : JournalFault → Type 0
IsAppendFault (Full size need) = Unit {0}
IsAppendFault (Disk before after) = Unit {0}
IsAppendFault (NotJournal at) = ⊥
IsAppendFault NoMemory = ⊥

-- it is that the disk failed
abbrev pub IsDiskFault : JournalFault → Type 0
IsDiskFault (Disk before after) = Unit {0}
IsDiskFault NoMemory = ⊥
IsDiskFault (NotJournal at) = ⊥
IsDiskFault (Full size need) = ⊥
