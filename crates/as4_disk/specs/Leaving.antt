-- What a crash may leave of a disk while device calls are made, over the meaning of the disk: the record of what `Disk`
-- says of it.
use Rattle.std.specs.Prelude.{◌≡◌, ◌⊎◌, ℕ, ◌≤◌, Result, is_some}
use Rattle.as4_disk.specs.declared.disk.Disk.{Ghosts as DiskMeaning}
use Rattle.as4_disk.specs.declared.reading.ReadFault.{ReadFault}
use Rattle.as4_disk.specs.Faults.{HasCause, HasReadCause}
use Rattle.as4_disk.specs.Image.{Image}
use Rattle.as4_disk.specs.Runs.{Within}

-- a crash at any moment from old to new leaves an image that has P
pub record LeavesOnly {D : Type 0} (M : DiskMeaning D) (old new : D) (P : Image → Type 0) : Type 0 where
  pub later : M.moment old ≤ M.moment new
  pub each : (c : Image) → M.left_since new (M.moment old) c → P c
  -- for a run that began earlier
  pub before : (t : ℕ) (c : Image) → t ≤ M.moment old → M.left_since new t c → M.left_since old t c ⊎ P c

-- from old to new only what has P; or up to some state between only that, and from there on only what has Q
abbrev pub FirstThen : {D : Type 0} → DiskMeaning D → D → D → (Image → Type 0) → (Image → Type 0) → Type 0
FirstThen {D} M old new P Q = LeavesOnly M old new P
    ⊎ ((between : D) × LeavesOnly M old between P × LeavesOnly M between new Q)

-- nothing was written: the disk reads as before, and a crash at any moment leaves an image that it might have left before
pub record Quiet {D : Type 0} (M : DiskMeaning D) (old new : D) : Type 0 where
  pub same : M.seen new ≡ M.seen old
  pub within : Within (M.may_leave old) (M.may_leave new)
  pub run : LeavesOnly M old new (M.may_leave old)

-- The disk's content is observable as before, and the count of faults shows whether a device call failed.
pub record Counts {D T E : Type 0} (M : DiskMeaning D) (old new : D) (result : Result T E) : Type 0 where
  pub tells : is_some (M.seen new) ≡ is_some (M.seen old)
  pub cause : HasCause (M.fault_count old) (M.fault_count new) result

-- the same of a call that also allocates
pub record CountsRead {D T : Type 0} (M : DiskMeaning D) (old new : D) (result : Result T ReadFault) : Type 0 where
  pub tells : is_some (M.seen new) ≡ is_some (M.seen old)
  pub cause : HasReadCause (M.fault_count old) (M.fault_count new) result
