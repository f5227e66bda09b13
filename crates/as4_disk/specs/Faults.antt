-- What a disk's count of faults tells of a call: it rises where a device call failed, and else it stays.
use Rattle.std.specs.Prelude.{◌≡◌, ℕ, ◌≤◌, Result, Ok, Err}
use Rattle.as4_disk.specs.declared.reading.ReadFault.{ReadFault}
use Rattle.as4_disk.specs.declared.reading.ReadFault.TheVariants.{Disk, NoMemory}
use Rattle.as4_flow.specs.Flow.{Rose}

-- the count hasn't fallen, and it has risen or stands at the last value of a u64
abbrev pub Rises : ℕ → ℕ → Type 0
Rises before now = (before ≤ now) × Rose before now

-- what it tells of a device call
abbrev pub HasCause : {T E : Type 0} → ℕ → ℕ → Result T E → Type 0
HasCause before now (Ok value) = now ≡ before
HasCause before now (Err fault) = Rises before now

-- what it tells of a call that may want memory too
abbrev pub HasReadCause : {T : Type 0} → ℕ → ℕ → Result T ReadFault → Type 0
HasReadCause before now (Ok value) = now ≡ before
HasReadCause before now (Err NoMemory) = now ≡ before
HasReadCause before now (Err Disk) = Rises before now
