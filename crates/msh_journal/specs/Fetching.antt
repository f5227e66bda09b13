-- How a message is found among the effects of a record.
use Rattle.std.specs.Prelude.{ℕ, List, Bool, false}
use Rattle.std.specs.Str.{bytes_eq}
use Rattle.as4_effects.specs.declared.effect.Effect.{Effect}
use Rattle.as4_effects.specs.declared.effect.Effect.TheVariants as effect

-- the effect delivers a message with this identifier
abbrev pub delivers : List ℕ → Effect → Bool
delivers id (effect.Delivered delivery) = bytes_eq delivery.header.id id
delivers id other = false
