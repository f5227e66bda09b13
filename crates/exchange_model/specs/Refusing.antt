-- Which submissions an error signal refuses (ebMS 3.0 Core, section 6.2).
use Rattle.std.specs.Prelude.{ℕ, List, [], ◌∷◌, not, ◌==◌, if◌then◌else◌, Option, Some, None, map}
use Rattle.std.specs.List.{filter, filter_map}
use Rattle.std.specs.Option.{option_and_then, option_or}
use Rattle.as4_effects.specs.declared.effect.Effect.{Effect}
use Rattle.as4_effects.specs.declared.effect.Effect.TheVariants.{Refused}
use Rattle.as4_values.specs.declared.signal_body.ErrorItem.{ErrorItem}
use Rattle.as4_values.specs.declared.signal_body.Severity.{Severity}
use Rattle.as4_values.specs.declared.signal_body.Severity.TheVariants.{Failure, Warning}
use Rattle.exchange_model.specs.Questions.{is_pending, sent_of}
use Rattle.exchange_model.specs.declared.sent.Sent.{Sent}

-- the rejection of a submission, by its number, with an error's code
pub record Rejection : Type 0 where
  pub number : ℕ
  pub code : List ℕ

-- the refusal of a submission, where it is pending
abbrev pub refusal_with : List ℕ → Sent → Option Rejection
refusal_with code s = if is_pending s then Some (record { number = s.submission.number; code = code }) else None

-- for a failure, the pending submission that it is about: the one that it names, else the one that its signal refers
-- to; for a warning, none
abbrev pub refusal_by : Severity → List ℕ → Option (List ℕ) → List Sent → Option Rejection
refusal_by Warning code about sent = None
refusal_by Failure code about sent =
    option_and_then (refusal_with code) (option_and_then (λ id. sent_of id sent) about)

-- for an error of a signal with this reference
abbrev pub refusal_of : Option (List ℕ) → List Sent → ErrorItem → Option Rejection
refusal_of ref_to sent item = refusal_by item.severity item.code (option_or item.about ref_to) sent

-- the first of each number, in order
unfoldable pub once : List Rejection → List Rejection
once [] = []
once (refusal ∷ refusals) = refusal ∷ filter (λ later. not (later.number == refusal.number)) (once refusals)

-- the effects of an error signal with these items
unfoldable pub refusals_of : Option (List ℕ) → List Sent → List ErrorItem → List Effect
refusals_of ref_to sent items =
    map (λ refusal. Refused refusal.number refusal.code) (once (filter_map (refusal_of ref_to sent) items))
