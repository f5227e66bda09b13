-- Submissions that messages and effects name.
use Rattle.std.specs.Prelude.{◌≡◌, ℕ, List, Bool, false, ◌==◌, Option, Some, MatchOption}
use Rattle.std.specs.Option.{option_and_then}
use Rattle.as4_effects.specs.declared.effect.Effect.{Effect}
use Rattle.as4_effects.specs.declared.effect.Effect.TheVariants.{Refused}
use Rattle.as4_values.specs.declared.header.UserHeader.{UserHeader}
use Rattle.exchange_model.specs.Table.{IsOther}
use Rattle.exchange_model.specs.Questions.{sent_of}
use Rattle.exchange_model.specs.declared.sent.Sent.{Sent}

-- the submission that a reference names
abbrev pub referred : Option (List ℕ) → List Sent → Option Sent
referred ref_to sent = option_and_then (λ ref. sent_of ref sent) ref_to

-- the submission that a receipt with this reference and this copy is for
pub record IsFor (ref_to : Option (List ℕ)) (copy : Option UserHeader) (sent : List Sent) (s : Sent) : Type 0 where
  pub names : referred ref_to sent ≡ Some s
  pub own : ¬ IsOther copy s.submission.header

-- the code of the error that such a receipt gives
abbrev pub IsRefusedBy : Option (List ℕ) → Option UserHeader → List Sent → ℕ → Type 0
IsRefusedBy ref_to copy sent code =
    MatchOption (referred ref_to sent) (code ≡ 3) (λ s. IsOther copy s.submission.header × (code ≡ 302))

-- the effect refuses the submission of this number
abbrev pub has_number : ℕ → Effect → Bool
has_number number (Refused other code) = other == number
has_number number effect = false
