-- A disk in memory: what it was made with, the changes since, and how the calls that come will go.
use Rattle.std.specs.Prelude.{◌≡◌, ◌⊎◌, ℕ, zero, suc, ◌-◌, Bool, true, false, if◌then◌else◌, ◌==◌, List, [], ◌∷◌, ◌++◌, Option, None, Some, Result, Ok, Err, option_map}
use Rattle.std.specs.List.{list_any}
use Rattle.as4_flow.specs.Flow.{one_more}
use Rattle.as4_disk.specs.declared.files.Files.{Files}
use Rattle.as4_disk.specs.declared.change.Change.{Change}
use Rattle.as4_disk.specs.declared.change.Pick.{Pick}
use Rattle.as4_disk.specs.declared.change.Turn.{Turn}
use Rattle.as4_disk.specs.declared.change.Turn.TheVariants.{Acts, Fails, Stops}
use Rattle.as4_disk.specs.Image.{Image}
use Rattle.as4_disk.specs.Files.{image_of}
use Rattle.as4_disk.specs.Changes.{bytes_by, is_sync, LeftOf}
use Rattle.as4_disk.specs.Picks.{pick_by}

pub record DiskState : Type 0 where
  -- what it was made with
  pub first : Files
  -- what its device calls have changed since, the oldest first
  pub changes : List Change
  -- the numbers of the calls that fail, the first call being 1
  pub failing : List ℕ
  -- how many calls were made
  pub calls : ℕ
  -- where it is to stop, the call at which it does, the next being 1; 0 once it has stopped
  pub stop : Option ℕ
  pub faults : ℕ
  -- a call has failed for want of memory
  pub ran_out : Bool

abbrev pub new_disk : Files → List ℕ → DiskState
new_disk files failing = record { first = files; changes = []; failing = failing; calls = 0; stop = None; faults = 0; ran_out = false }

-- the bytes that a read gives
abbrev pub reads : DiskState → Image
reads disk q = bytes_by q disk.changes (image_of disk.first q)

-- what a crash may leave now
abbrev pub MayLeave : DiskState → Image → Type 0
MayLeave disk = LeftOf disk.first disk.changes

-- the image that a crash leaves by a pick
abbrev pub picked : Pick → DiskState → Image
picked pick disk q = pick_by pick q disk.changes (image_of disk.first q) (image_of disk.first q)

-- How the next call goes: one that is named does nothing and fails; the one at which the disk stops acts and fails.
abbrev pub turn_by : Option ℕ → Turn
turn_by None = Acts
turn_by (Some call) = if call == 0 then Fails else if call == 1 then Stops else Acts

abbrev pub turn_of : DiskState → Turn
turn_of disk = if list_any (λ call. call == one_more disk.calls) disk.failing then Fails else turn_by disk.stop

-- a disk after one more call, which has made no change
abbrev pub called : DiskState → DiskState
called disk = record disk { calls = one_more disk.calls; stop = option_map (λ call. call - 1) disk.stop }

abbrev pub changed : Change → DiskState → DiskState
changed change disk = record disk { changes = disk.changes ++ change ∷ [] }

abbrev pub failed : DiskState → DiskState
failed disk = record disk { faults = one_more disk.faults }

abbrev pub starved : DiskState → DiskState
starved disk = record disk { ran_out = true; faults = one_more disk.faults }

-- A call that acts and then answers Ok, or does nothing and fails, or acts so far and fails.
abbrev pub Answers : {T E : Type 0} → (DiskState → DiskState) → (DiskState → DiskState) → DiskState → DiskState → Result T E → Type 0
Answers act halted old new (Ok _) = (turn_of old ≡ Acts) × (new ≡ act (called old))
Answers act halted old new (Err _) = ((turn_of old ≡ Fails) × (new ≡ failed (called old)))
    ⊎ ((turn_of old ≡ Stops) × (new ≡ failed (halted (called old))))

-- What a call that makes a change has done where the disk stops at it: a sync settles nothing.
abbrev pub halted : Change → DiskState → DiskState
halted change disk = if is_sync change then disk else changed change disk

-- A call that makes a change and answers Ok; or it fails and does nothing, or acts so far and fails, or finds no memory.
abbrev pub MakesChange : Change → DiskState → DiskState → Bool → Type 0
MakesChange change old new true = (turn_of old ≡ Acts) × (new ≡ changed change (called old))
MakesChange change old new false = ((turn_of old ≡ Fails) × (new ≡ failed (called old)))
    ⊎ (((turn_of old ≡ Stops) × (new ≡ failed (halted change (called old)))) ⊎ (new ≡ starved (called old)))

-- what is changed by the calls of these changes where the disk stops at the one of this number
unfoldable pub stopped_at : ℕ → List Change → List Change
stopped_at number [] = []
stopped_at zero (change ∷ changes) = []
stopped_at (suc zero) (change ∷ changes) = if is_sync change then [] else change ∷ []
stopped_at (suc (suc number)) (change ∷ changes) = change ∷ stopped_at (suc number) changes
