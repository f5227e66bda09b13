-- The bytes of a submission's state: its kind, followed by the code where it was refused.
use Rattle.std.specs.Prelude.{ℕ, List, [], ◌∷◌}
use Rattle.as4_effects.specs.Bodies.{text_body}
use Rattle.as4_effects.specs.declared.mark.Mark.{Mark}
use Rattle.as4_effects.specs.declared.mark.Mark.TheVariants.{Pending, Receipted, Failed, Refused}

unfoldable pub mark_body : Mark → List ℕ
mark_body Pending = 0 ∷ []
mark_body Receipted = 1 ∷ []
mark_body Failed = 2 ∷ []
mark_body (Refused code) = 3 ∷ text_body code
