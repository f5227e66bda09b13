-- The disk of a journal: a selector, which picks one of two leaves.
use Rattle.std.specs.Prelude.{◌≡◌, ◌≢◌, ◌⊎◌, ℕ, ◌%◌, Bool, true, false, ◌==◌, List, [], ◌∷◌, ◌++◌}
use Rattle.as4_disk.specs.declared.part.Part.{Part}
use Rattle.as4_disk.specs.declared.part.Part.TheVariants.{Selector, Leaf0, Leaf1}
use Rattle.as4_disk.specs.Image.{Image}
use Rattle.journal.specs.declared.version.Version.{Version}
use Rattle.journal.specs.declared.version.Version.TheVariants.{Two}
use Rattle.journal.specs.Leaf.{HasMagic, IsNew, IsLeaf, IsOfVersion, IsPending, IsWholeLeaf}

-- the low bit of the selector's first byte picks leaf 1; an empty selector picks leaf 0
abbrev pub picks : List ℕ → Bool
picks [] = false
picks (byte ∷ bytes) = byte % 2 == 1

abbrev pub leaf_of : Bool → Part
leaf_of false = Leaf0
leaf_of true = Leaf1

abbrev pub is_second_of : Image → Bool
is_second_of image = picks (image Selector)

unfoldable pub picked_leaf : Image → List ℕ
picked_leaf image = image (leaf_of (is_second_of image))

-- a journal that opens on this image has these records
abbrev pub OpensTo : List (List ℕ) → Image → Type 0
OpensTo bodies image = IsWholeLeaf bodies (picked_leaf image)

-- it has these records, and this one is pending behind them: whole, behind a gate that is neither open nor 0
abbrev pub HasPending : List (List ℕ) → List ℕ → Image → Type 0
HasPending bodies body image = (version : Version) × (gate : ℕ) × (rest : List ℕ)
    × IsLeaf version bodies gate rest (picked_leaf image) × (gate ≢ 0) × IsPending version bodies body rest

-- it has these records, and only such a one may be pending behind them
abbrev pub OpensWith : List (List ℕ) → (List ℕ → Type 0) → Image → Type 0
OpensWith bodies may_pend image = OpensTo bodies image × ((body : List ℕ) → HasPending bodies body image → may_pend body)

-- it has these records, and none is pending
abbrev pub OpensSettled : List (List ℕ) → Image → Type 0
OpensSettled bodies image = OpensWith bodies (λ body. ⊥) image

-- it has these records, with this new one or without; where it is without, no other is pending
abbrev pub OpensToOneOf : List (List ℕ) → List ℕ → Image → Type 0
OpensToOneOf bodies body image = OpensWith bodies (λ other. other ≡ body) image ⊎ OpensSettled (bodies ++ body ∷ []) image

-- it is so, with a leaf of this version
abbrev pub InVersion : Version → (Image → Type 0) → Image → Type 0
InVersion version is image = is image × HasMagic version (picked_leaf image)

-- it has one list of records in that version, or the other, folded
abbrev pub OpensToEither : Version → List (List ℕ) → List (List ℕ) → Image → Type 0
OpensToEither version bodies folded image =
    InVersion version (OpensSettled bodies) image ⊎ InVersion Two (OpensSettled folded) image

-- From a disk that read so to one that a crash leaves: the records are there, and what is pending was pending; or the
-- pending one is among them. The version that the leaf has it had.
pub record Reopens (before after : Image) : Type 0 where
  pub version : (v : Version) → IsOfVersion v (picked_leaf after) → IsOfVersion v (picked_leaf before)
  pub records : (bodies : List (List ℕ)) → OpensTo bodies before
      → OpensWith bodies (λ body. HasPending bodies body before) after
      ⊎ ((body : List ℕ) × HasPending bodies body before × OpensSettled (bodies ++ body ∷ []) after)

-- The picked leaf is as it was, or it was new and is.
abbrev pub KeepsLeaf : Image → Image → Type 0
KeepsLeaf before after = (picked_leaf after ≡ picked_leaf before) ⊎ (IsNew (picked_leaf before) × IsNew (picked_leaf after))
