-- What holds of the disk of a journal once the picked leaf is settled.
use Rattle.std.specs.Prelude.{◌≡◌, ℕ, ◌<◌, ◌≤◌, Bool, not, List, [], ◌∷◌, ◌++◌, Some, length}
use Rattle.as4_disk.specs.declared.disk.Disk.{Ghosts as DiskMeaning}
use Rattle.as4_disk.specs.declared.part.Part.TheVariants.{Selector}
use Rattle.as4_flow.specs.Flow.{Told}
use Rattle.as4_disk.specs.Image.{Image, IsOnly}
use Rattle.journal.specs.declared.version.Version.{Version}
use Rattle.journal.specs.declared.version.Version.TheVariants.{Two}
use Rattle.journal.specs.Leaf.{front_of}
use Rattle.journal.specs.Store.{leaf_of, is_second_of}

-- the disk is observable, picks this leaf and reads these bytes of it, and each crash leaves the same of both
pub record IsSettled {D : Type 0} (M : DiskMeaning D) (disk : D) (is_second : Bool) (leaf : List ℕ) : Type 0 where
  pub image : Image
  pub told : M.seen disk ≡ Some image
  pub picked : is_second_of image ≡ is_second
  pub bytes : image (leaf_of is_second) ≡ leaf
  pub selector_only : IsOnly Selector image (M.may_leave disk)
  pub leaf_only : IsOnly (leaf_of is_second) image (M.may_leave disk)

-- a read gives these bytes of the leaf that isn't picked
abbrev pub Reads : {D : Type 0} → DiskMeaning D → D → Bool → List ℕ → Type 0
Reads M disk is_second other = Told (M.seen disk) (λ b. b (leaf_of (not is_second)) ≡ other)

-- and each crash leaves them
abbrev pub ReadsSettled : {D : Type 0} → DiskMeaning D → D → Bool → List ℕ → Type 0
ReadsSettled M disk is_second other = Told (M.seen disk) (λ b. (b (leaf_of (not is_second)) ≡ other) × IsOnly (leaf_of (not is_second)) b (M.may_leave disk))

-- The picked leaf begins with its magic and a gate. Where that is open, the leaf isn't new; a new one has version 2.
pub record IsStart {D : Type 0} (M : DiskMeaning D) (disk : D) (is_second : Bool) (version : Version) : Type 0 where
  pub next : ℕ
  pub rest : List ℕ
  pub settled : IsSettled M disk is_second (front_of version [] ++ next ∷ rest)
  pub made : next ≡ 1 → 9 < length (front_of version [] ++ next ∷ rest)
  pub new : length (front_of version [] ++ next ∷ rest) ≤ 9 → version ≡ Two
