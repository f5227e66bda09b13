-- A new submission has a number and an identifier that no earlier one has.
use Rattle.std.proofs.Common.{◌≡◌, ℕ, suc, ◌+◌, ◌<◌, ◌≤◌, List, [], ◌∷◌, Bool, true, false, not, None, length, refl, ap, ◌∙◌, arith}
use Rattle.std.specs.Str.{bytes_eq}
use Rattle.std.proofs.lemmas.Bool.{and_from, cond-false, eq-eqb}
use Rattle.std.proofs.lemmas.Slice.Eq.{bytes_eq-Decides}
use Rattle.as4_effects.specs.declared.effect.Effect.TheVariants as effect
use Rattle.as4_effects.specs.declared.submission.Submission.{Submission}
use Rattle.exchange_model.specs.Apply.{is_fit, is_one}
use Rattle.exchange_model.specs.End.{End}
use Rattle.exchange_model.specs.Numbered.{AreNumberedFrom}
use Rattle.exchange_model.specs.Questions.{sent_of}
use Rattle.exchange_model.specs.declared.sent.Sent.{Sent}
use Rattle.exchange_model.proofs.NumberedLemmas.{one_number}

not_true : (b : Bool) → (b ≡ true → ⊥) → b ≡ false
not_true true h = absurd (h refl)
not_true false h = refl

-- one of a smaller number has another identifier
differs : (s t : Submission) → t.number < s.number → bytes_eq t.header.id s.header.id ≡ false
differs s t less =
    not_true (bytes_eq t.header.id s.header.id)
    (λ e. let same : t.number ≡ s.number = one_number t s ((bytes_eq-Decides t.header.id s.header.id).0 e) in omega arith)

unnamed : (s : Submission) (n : ℕ) (sent : List Sent) → AreNumberedFrom n sent → n + length sent ≤ s.number
    → sent_of s.header.id sent ≡ None
unfolding AreNumberedFrom
unnamed s n [] h l = refl
unnamed s n (t ∷ sent) h l =
    cond-false _ _ _ (differs s t.submission (omega (arith, h.0))) ∙ unnamed s (suc n) sent h.1 (omega arith)

-- a submission of the next number fits
pub new_fits : (s : Submission) (end : End) → AreNumberedFrom 0 end.sent → s.number ≡ length end.sent
    → is_fit (effect.Submitted s) end ≡ true
unfolding is_fit
new_fits s end places next =
    let none : sent_of s.header.id end.sent ≡ None = unnamed s 0 end.sent places (omega arith) in
    and_from _ _ (eq-eqb s.number (length end.sent) next) (ap (λ o. not (is_one (λ (t : Sent). true) o)) none)
