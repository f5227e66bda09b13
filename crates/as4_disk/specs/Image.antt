-- A disk of three parts: its images, and what changes one of its parts.
use Rattle.std.specs.Prelude.{◌≡◌, ◌≢◌, ℕ, Bool, true, false, List}
use Rattle.as4_disk.specs.declared.part.Part.{Part}
use Rattle.as4_disk.specs.declared.part.Part.TheVariants.{Selector, Leaf0, Leaf1}
use Rattle.as4_disk.specs.Bytes.{Torn}

-- the bytes of each part
abbrev pub Image : Type 0
Image = Part → List ℕ

abbrev pub same_part : Part → Part → Bool
same_part Selector Selector = true
same_part Leaf0 Leaf0 = true
same_part Leaf1 Leaf1 = true
same_part _ _ = false

-- the step changes this part, and the others are as they were
pub record On (part : Part) (step : List ℕ → List ℕ → Type 0) (old new : Image) : Type 0 where
  pub there : step (old part) (new part)
  pub elsewhere : (q : Part) → q ≢ part → new q ≡ old q

-- each outcome of a crash has these bytes in this part; of the others nothing is said
abbrev pub IsOnly : Part → Image → (Image → Type 0) → Type 0
IsOnly part image outcomes = (c : Image) → outcomes c → c part ≡ image part

-- each outcome before is one now, but for the bytes of this part: what a crash may leave of the others is as it was
abbrev pub KeepsOthers : Part → (Image → Type 0) → (Image → Type 0) → Type 0
KeepsOthers part old new = (before : Image) → old before
    → (now : Image) × new now × ((q : Part) → q ≢ part → now q ≡ before q)

-- an outcome, after a write of n bytes to this part that a crash may have cut short
abbrev pub TornFrom : Part → ℕ → ℕ → (Image → Type 0) → Image → Type 0
TornFrom part at n outcomes c = (d : Image) × outcomes d × On part (Torn at n) d c
