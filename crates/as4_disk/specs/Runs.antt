-- What a device call does to the images of a crash, for any type of image. A disk has a moment, and for each moment the
-- images that a crash might have left from it on.
use Rattle.std.specs.Prelude.{◌≡◌, ◌⊎◌, ℕ, ◌≤◌, Bool, true, false, List, [], ◌∷◌, Option, Some}

-- where both are observable, the step leads from one to the other
abbrev pub Goes : {X : Type 0} → (X → X → Type 0) → Option X → Option X → Type 0
Goes {X} step old new = (v w : X) → old ≡ Some v → new ≡ Some w → step v w

-- each new image is an old image after the step
abbrev pub Follows : {X : Type 0} → (X → X → Type 0) → (X → Type 0) → (X → Type 0) → Type 0
Follows {X} step old new = (c : X) → new c → (d : X) × old d × step d c

-- each new image is an old image
abbrev pub Within : {X : Type 0} → (X → Type 0) → (X → Type 0) → Type 0
Within {X} old new = (c : X) → new c → old c

-- Time goes on: a crash since t might have left what it might have left before, or what it may leave now.
pub record Elapses {X : Type 0} (before now : ℕ) (past since : ℕ → X → Type 0) (may_leave : X → Type 0) : Type 0 where
  pub later : before ≤ now
  pub nothing_else : (t : ℕ) (c : X) → t ≤ before → since t c → past t c ⊎ may_leave c
  pub keeps : (t : ℕ) (c : X) → t ≤ before → past t c → since t c

-- the calls of these changes were made, one after another, up to the first that failed, and whether none did
abbrev pub MakesAll : {D C : Type 0} → (C → D → D → Bool → Type 0) → List C → D → D → Bool → Type 0
MakesAll makes [] old new ok = (new ≡ old) × (ok ≡ true)
MakesAll {D} makes (change ∷ changes) old new ok = (makes change old new false × (ok ≡ false))
    ⊎ ((mid : D) × makes change old mid true × MakesAll makes changes mid new ok)
