-- The contents of an outbox.
use Rattle.std.specs.Prelude.{ℕ, ◌≤◌, List, Option, Some, None, All}
use Rattle.exchange_model.specs.Numbered.{AreNumberedFrom}
use Rattle.as4_effects.specs.declared.mark.Mark.{Mark}
use Rattle.as4_effects.specs.declared.mark.Mark.TheVariants as mark
use Rattle.exchange_model.specs.declared.sent.Sent.{Sent}

-- the submissions, by number, and the identifier that room is reserved for
pub record Submissions : Type 0 where
  pub sent : List Sent
  pub room : Option (List ℕ)

-- each submission is at the place of its number, and was last sent before the year 10,000
pub record Stand (sent : List Sent) : Type 0 where
  pub numbered : AreNumberedFrom 0 sent
  pub dated : All (λ (s : Sent). s.last ≤ 253402300799999) sent

-- the code of the error with which the other endpoint refused it
abbrev pub code_of : Mark → Option (List ℕ)
code_of (mark.Refused code) = Some code
code_of other = None
