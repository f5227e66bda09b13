-- A refusal names a pending submission.
use Rattle.std.proofs.Common.{◌≡◌, ℕ, inl, inr, List, true, Option, Some, None, refl, ap, ◌∙◌}
use Rattle.std.specs.Option.{IfSome, option_and_then}
use Rattle.std.proofs.lemmas.Bool.{cases_Bool}
use Rattle.as4_values.specs.declared.signal_body.Severity.{Severity}
use Rattle.as4_values.specs.declared.signal_body.Severity.TheVariants.{Failure, Warning}
use Rattle.exchange_model.specs.Apply.{is_one}
use Rattle.exchange_model.specs.Numbered.{AreNumberedFrom}
use Rattle.exchange_model.specs.Questions.{is_pending, sent_at, sent_of}
use Rattle.exchange_model.specs.Refusing.{refusal_by, refusal_with}
use Rattle.exchange_model.specs.declared.sent.Sent.{Sent}
use Rattle.exchange_model.proofs.FoundLemmas.{sent_of_has}
use Rattle.exchange_model.proofs.ListLemmas.{Has}
use Rattle.exchange_model.proofs.NumberedLemmas.{itself}

-- a refusal by number names a submission that this number finds, and it is pending
pending_with : (code : List ℕ) (sent : List Sent) (s : Sent) → sent_at s.submission.number sent ≡ Some s
    → IfSome (refusal_with code s) (λ r. is_one is_pending (sent_at r.number sent) ≡ true)
pending_with code sent s found =
    elim (cases_Bool (is_pending s)) [
      | inl e ↦ rw e (ap (is_one is_pending) found ∙ e)
      | inr e ↦ rw e tt
    ]

pending_found : (code : List ℕ) (sent : List Sent) (o : Option Sent) → AreNumberedFrom 0 sent → ((s : Sent) → o ≡ Some s → Has sent s)
    → IfSome (option_and_then (refusal_with code) o) (λ r. is_one is_pending (sent_at r.number sent) ≡ true)
pending_found code sent None h there = tt
pending_found code sent (Some s) h there = pending_with code sent s (itself 0 sent s h (there s refl))

pub pending_by : (severity : Severity) (code : List ℕ) (about : Option (List ℕ)) (sent : List Sent) → AreNumberedFrom 0 sent
    → IfSome (refusal_by severity code about sent) (λ r. is_one is_pending (sent_at r.number sent) ≡ true)
pending_by Warning code about sent h = tt
pending_by Failure code None sent h = tt
pending_by Failure code (Some id) sent h = pending_found code sent (sent_of id sent) h (λ s found. (sent_of_has id sent s found).0)
