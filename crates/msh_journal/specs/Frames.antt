-- The record of some effects, as it is written.
use Rattle.std.specs.Prelude.{ℕ, List, [], ◌∷◌, Option, Some, None}
use Rattle.as4_effects.specs.declared.effect.Effect.{Effect}
use Rattle.msh_recovery.specs.Records.{IsBodyOf}

-- these effects have a record with this body, or, where there are none, no record
abbrev pub IsFrameOf : List Effect → Option (List ℕ) → Type 0
IsFrameOf [] None = Unit {0}
IsFrameOf (effect ∷ effects) (Some body) = IsBodyOf (effect ∷ effects) body
IsFrameOf effects frame = ⊥
