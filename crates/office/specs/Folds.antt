-- What a checkpoint answers, and what it leaves.
use Rattle.std.specs.Prelude.{◌≡◌, ◌⊎◌, ℕ, ◌<◌, ◌≤◌, None, Result, Ok, Err, ◌^◌, length}
use Rattle.as4_disk.specs.declared.disk.Disk.{Ghosts as DiskMeaning}
use Rattle.as4_disk.specs.Image.{Image}
use Rattle.as4_disk.specs.Leaving.{LeavesOnly}
use Rattle.as4_flow.specs.Flow.{Told}
use Rattle.msh_recovery.specs.Opens.{OpensFolded}
use Rattle.exchange_model.specs.End.{End}
use Rattle.exchange_model.specs.Fold.{IsFoldedSize, resized}
use Rattle.office.specs.Calls.{stop_of}
use Rattle.office.specs.State.{OfficeState}
use Rattle.office.specs.Steps.{Enters, EntersNothing, FindsItWorn, Keeps, StandsStill, Stops}
use Rattle.office.specs.declared.call.Call.{Call}
use Rattle.office.specs.declared.call.Call.TheVariants.{Folded}
use Rattle.office.specs.declared.fault.OfficeFault.{OfficeFault}
use Rattle.office.specs.declared.fault.OfficeFault.TheVariants.{Disk, NoMemory, Stopped, Worn}
use Rattle.pass_book.specs.States.{PassState}

-- the fold of this end is shorter than its journal
abbrev pub CanShorten : End → Type 0
CanShorten end = (size : ℕ) × IsFoldedSize end size × (size < end.size)

module _ {D : Type 0} (old new : OfficeState D) (pass_old pass_new : PassState Call) where
  -- the journal's fold is shorter, and takes its place
  pub record Shortens (size : ℕ) : Type 0 where
    pub folded : IsFoldedSize old.end size
    pub shorter : size < old.end.size
    pub end : new.end ≡ resized size old.end
    pub entered : Enters old new pass_old pass_new (Folded size)

  -- the journal's fold isn't shorter, and nothing is done
  pub record IsShortEnough (size : ℕ) : Type 0 where
    pub room : length old.list < 2 ^ 63
    pub present : size ≡ old.end.size
    pub least : (other : ℕ) → IsFoldedSize old.end other → size ≤ other
    pub same : new ≡ old
    pub pass : pass_new ≡ pass_old

  -- The payloads of a message weren't found, and the compaction was dropped. This never happens where the disk is
  -- observable.
  pub record FindsNoPayloads (M : DiskMeaning D) (size : ℕ) : Type 0 where
    pub room : length old.list < 2 ^ 63
    pub present : size ≡ old.end.size
    pub shorter : CanShorten old.end
    pub unseen : M.seen old.disk ≡ None
    pub nothing : EntersNothing old new pass_old pass_new

  -- what is answered, by cases on the answer
  abbrev pub Shortening : DiskMeaning D → Result ℕ OfficeFault → Type 0
  Shortening M (Ok size) = (stop_of old.list ≡ None) × (Shortens size ⊎ IsShortEnough size ⊎ FindsNoPayloads M size)
  Shortening M (Err (Disk before after)) = Stops old new pass_old pass_new M None before after
  Shortening M (Err (Stopped before after)) = StandsStill old new pass_old pass_new before after × EntersNothing old new pass_old pass_new × (length old.list < 2 ^ 63)
  Shortening M (Err Worn) = FindsItWorn old new pass_old pass_new
  Shortening M (Err NoMemory) = (stop_of old.list ≡ None) × (length old.list < 2 ^ 63) × CanShorten old.end × EntersNothing old new pass_old pass_new

-- What a checkpoint does. While it is made a crash leaves the end, with its journal folded or as it was.
pub record Checkpoints {D : Type 0} (M : DiskMeaning D) (old new : OfficeState D) (pass_old pass_new : PassState Call) (result : Result ℕ OfficeFault) : Type 0 where
  pub answer : Shortening old new pass_old pass_new M result
  pub any_moment : stop_of old.list ≡ None
      → Told (M.seen old.disk) (λ _. LeavesOnly M old.disk new.disk (λ (c : Image). OpensFolded c old.end))
  pub keeps : Keeps M old new pass_old pass_new
