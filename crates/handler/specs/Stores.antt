-- What a handler makes of its store.
use Rattle.std.specs.Prelude.{◌≡◌, ◌⊎◌, ℕ, List, Option, Some, Ok, map}
use Rattle.as4_disk.specs.Image.{Image}
use Rattle.as4_disk.specs.declared.part.Part.{Part}
use Rattle.as4_flow.specs.Flow.{Told}
use Rattle.as4_host.specs.Files.{bytes_in}
use Rattle.as4_host.specs.declared.host.Host.{Ghosts as HostMeaning}
use Rattle.exchange_model.specs.End.{End}
use Rattle.exchange_model.specs.Fold.{IsFoldedSize, resized}
use Rattle.handler.specs.Hosts.{file_of}
use Rattle.journal.specs.Store.{picked_leaf}
use Rattle.mode_values.specs.ModeFields.{mode_fields}
use Rattle.mode_values.specs.declared.mode.Mode.{Mode}
use Rattle.msh_recovery.specs.Opens.{IsOld, ReadsAs, ReopensAs}
use Rattle.office.specs.Calls.{Leads}
use Rattle.office.specs.Left.{IsLeft}
use Rattle.office.specs.declared.call.Call.{Call}
use Rattle.pmodes.specs.ModeFile.{modes_of_file}

-- the bytes of a modes file with these modes
abbrev pub HasModes : List Mode → List ℕ → Type 0
HasModes modes bytes = modes_of_file bytes ≡ Ok (map mode_fields modes)

-- the modes file has these modes
abbrev pub AreModesOf : Option (Option (List ℕ)) → List Mode → Type 0
AreModesOf file modes = Told file (λ held. (bytes : List ℕ) × (held ≡ Some bytes) × HasModes modes bytes)

-- An office that is opened on a store begins with this endpoint: the one that the store's records lead to. A leaf of
-- version 1 is compacted first.
pub record BeginsWith (image : Image) (start : End) : Type 0 where
  pub end : End
  pub reads : ReadsAs image end
  pub old : IsOld (picked_leaf image) → (size : ℕ) × IsFoldedSize end size × (start ≡ resized size end)
  pub young : ¬ IsOld (picked_leaf image) → start ≡ end

-- an office with these modes was opened on a store, made these calls, and left the store as it is now
pub record WorksOn (modes : List Mode) (calls : List Call) (before after : Image) : Type 0 where
  pub start : End
  pub begins : BeginsWith before start
  pub end : End
  pub leads : Leads modes start calls end
  pub left : IsLeft modes end calls after

-- What becomes of a store: it stays; an opening that failed leaves it as a crash in it may do; or an office worked on it.
abbrev pub BecomesBy : (List Mode → Type 0) → Image → Image → Type 0
BecomesBy may_be before after =
    ((q : Part) → after q ≡ before q) ⊎ ReopensAs before after
    ⊎ ((modes : List Mode) × (calls : List Call) × may_be modes × WorksOn modes calls before after)

module _ {H Store Door Dialer Time Dice DoorIn DoorOut DialerIn DialerOut : Type 0} (M : HostMeaning H Store Door Dialer Time Dice DoorIn DoorOut DialerIn DialerOut) where
  -- the files of the journal have the bytes of this image; one that isn't there has none
  abbrev pub Stores : List ℕ → H → Image → Type 0
  Stores journal host image = (q : Part) → bytes_in (M.file host (file_of journal q)) ≡ Some (image q)

  -- what a handler leaves of its store
  abbrev pub LeavesStore : (List Mode → Type 0) → List ℕ → H → H → Type 0
  LeavesStore may_be journal old new =
      (before : Image) → Stores journal old before → (after : Image) × Stores journal new after × BecomesBy may_be before after
