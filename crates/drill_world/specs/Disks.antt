-- What the disk of an end reads as.
use Rattle.std.specs.Prelude.{ℕ, if◌then◌else◌}
use Rattle.as4_disk.specs.Image.{Image}
use Rattle.as4_disk.specs.Memory.{DiskState, picked}
use Rattle.as4_disk.specs.declared.change.Pick.{Pick}
use Rattle.drill_world.specs.Transcript.{stands}
use Rattle.msh_recovery.specs.Opens.{IsOld, ReadsAs}
use Rattle.exchange_model.specs.Apply.{applied}
use Rattle.exchange_model.specs.End.{End}
use Rattle.exchange_model.specs.declared.outcome.Outcome.{Outcome}
use Rattle.journal.specs.Store.{picked_leaf}

-- the records of the image lead to this end, and opening it folds nothing
pub record IsOf (end : End) (image : Image) : Type 0 where
  pub reads : ReadsAs image end
  pub current : IsOld (picked_leaf image) → ⊥

-- whatever image of the disk is picked, it is of the end behind the outcome where its step stands, and else of the end
-- before
abbrev pub IsStoppedDisk : ℕ → End → Outcome → DiskState → Type 0
IsStoppedDisk call end outcome disk =
    (pick : Pick) → IsOf (if stands call pick then applied outcome.effects end else end) (picked pick disk)
