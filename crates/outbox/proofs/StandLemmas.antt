-- Submissions at their places in an outbox: look-ups, and what a change keeps.
use Rattle.std.proofs.Common.{Bor, inl, inr, get_or, ◌≡◌, ℕ, ◌<◌, ◌≤◌, List, [], ◌∷◌, ◌++◌, Bool, Option, Some, None, length, set, refl, sym, subst, ◌∙◌, arith}
use Rattle.std.specs.Prelude.{slice_get, IsTrue, IfSome, option_copied}
use Rattle.std.specs.Slice.{IsGetResult}
use Rattle.std.proofs.lemmas.Bool.{cases_lt, and_parts, leb-true}
use Rattle.std.proofs.lemmas.List.Elements.{All-nil, All-push, All-set}
use Rattle.std.proofs.lemmas.Option.{get_or_from_slice_get, slice_get-get_or, slice_get_past, slice_get_read, slice_get_within}
use Rattle.exchange_model.specs.Questions.{sent_at, is_waiting, is_pending}
use Rattle.exchange_model.specs.Apply.{is_one}
use Rattle.exchange_model.specs.declared.sent.Sent.{Sent}
use Rattle.exchange_model.proofs.NumberedLemmas.{none_numbered, numbered_push, place}
use Rattle.outbox.specs.Submissions.{Stand}
use Rattle.outbox.proofs.NumberedLemmas.{numbered_set}

-- at first there are none
pub none_stand : Stand []
none_stand = record { numbered = none_numbered; dated = All-nil (λ (s : Sent). s.last ≤ 253402300799999) }

-- one more
pub push_stands : (sent : List Sent) (s : Sent) → s.submission.number ≡ length sent → s.last ≤ 253402300799999 → Stand sent
    → Stand (sent ++ s ∷ [])
push_stands sent s next dated stand = record {
  numbered = numbered_push sent s stand.numbered next;
  dated = All-push (λ (x : Sent). x.last ≤ 253402300799999) sent s stand.dated dated;
}

-- a write of the same number
pub set_stands : (k : ℕ) (sent : List Sent) (s d : Sent) → k < length sent → s.submission.number ≡ (get_or sent k d).submission.number
    → s.last ≤ 253402300799999 → Stand sent → Stand (set sent k s)
set_stands k sent s d short same dated stand = record {
  numbered = numbered_set k sent s d stand.numbered short same;
  dated = All-set (λ (x : Sent). x.last ≤ 253402300799999) sent k s dated stand.dated;
}

-- a number that finds a submission is below the length
pub held_short : (p : Sent → Bool) (number : ℕ) (sent : List Sent) → Stand sent → IsTrue (is_one p (sent_at number sent)) → number < length sent
held_short p number sent stand held =
    elim (cases_lt number (length sent)) [
      | inl short ↦ short
      | inr past ↦
          let none : sent_at number sent ≡ None = place number sent stand.numbered ∙ slice_get_past sent number past in
          let no : IsTrue (is_one p None) = subst (λ (o : Option Sent). IsTrue (is_one p o)) none held in
          cc
    ]

pub held_passes : (p : Sent → Bool) (number : ℕ) (sent : List Sent) (d : Sent) → Stand sent → IsTrue (is_one p (sent_at number sent)) → IsTrue (p (get_or sent number d))
held_passes p number sent d stand held =
    let one : sent_at number sent ≡ Some (get_or sent number d) =
    place number sent stand.numbered ∙ slice_get-get_or sent number d (held_short p number sent stand held) in
    subst (λ (o : Option Sent). IsTrue (is_one p o)) one held

-- a waiting submission was sent at most as often as its mode allows
pub waiting_tries : (s : Sent) → IsTrue (is_waiting s) → s.tries ≤ 1000
waiting_tries s waiting =
    let few : s.tries ≤ s.submission.retries = leb-true s.tries s.submission.retries (and_parts (is_pending s) _ waiting).1 in
    let most : s.submission.retries ≤ 1000 = s.submission.limited in
    omega arith

-- the item at a place
pub looked_up : (found : Option (Bor Sent)) (number : ℕ) (sent : List Sent) → IsGetResult sent number number found → option_copied found ≡ slice_get sent number
looked_up None number sent is = sym (slice_get_past sent number is.3)
looked_up (Some s) number sent is = sym (slice_get_read sent (length sent) number s.now refl is.3.0 is.1)

pub dated_found : (found : Option (Bor Sent)) (number : ℕ) (sent : List Sent) → Stand sent → option_copied found ≡ slice_get sent number
    → IfSome found (λ s. s.now.last ≤ 253402300799999)
dated_found None number sent stand is = tt
dated_found (Some s) number sent stand is =
    subst (λ (x : Sent). x.last ≤ 253402300799999) (get_or_from_slice_get sent number s.now s.now (sym is))
    (stand.dated number s.now (slice_get_within sent number s.now (sym is)))
