-- Letting the spent submissions expire one after another.
use Rattle.std.proofs.Common.{◌≡◌, ℕ, zero, suc, inl, inr, ◌<◌, ◌≤◌, min, ◌+◌, List, [], ◌∷◌, Bool, true, false, cond, Option, Some, None, map, refl, sym, ap, ◌∙◌, arith}
use Rattle.std.specs.Prelude.{◌==◌, IsTrue, count_by, nat_le, slice_get}
use Rattle.std.specs.Option.{option_and_then}
use Rattle.std.proofs.lemmas.Bool.Decides.{nat_tests}
use Rattle.std.proofs.lemmas.Bool.{cases_Bool, cond-true, cond-false}
use Rattle.std.proofs.lemmas.List.Sums.{sum_by-cons}
use Rattle.as4_effects.specs.declared.mark.Mark.TheVariants as mark
use Rattle.exchange_model.specs.Apply.{changed, failed_if_spent, is_one, marked}
use Rattle.exchange_model.specs.Numbered.{AreNumberedFrom}
use Rattle.exchange_model.specs.Questions.{due, is_pending, is_spent, sent_at}
use Rattle.exchange_model.specs.declared.sent.Sent.{Sent}
use Rattle.due_heap.specs.Counting.{is_due_in}
use Rattle.due_heap.specs.Heaps.{Heaps, Place, standing_at}
use Rattle.outbox.specs.Failing.{Watches, failing_at, watched}
use Rattle.outbox.specs.Submissions.{Stand}
use Rattle.outbox.proofs.FailingLemmas.{dated_at, due_small, watched_pending, watched_settled}
use Rattle.outbox.proofs.PartsLemmas.{Parts, parts_of, passes, recounted, remapped}

-- letting one expire first doesn't change the result for all
pub fails_same : (moment number : ℕ) (sent : List Sent) → AreNumberedFrom 0 sent → IsTrue (is_one (is_spent moment) (sent_at number sent))
    → map (failed_if_spent moment) (changed number (marked mark.Failed) sent) ≡ map (failed_if_spent moment) sent
fails_same moment number sent numbered spent =
    let parts : Parts number sent = parts_of (is_spent moment) number sent numbered spent in
    let one : is_spent moment parts.one ≡ true = passes (is_spent moment) number sent parts spent in
    remapped (failed_if_spent moment) number (marked mark.Failed) sent parts (sym (cond-true _ _ _ one))

-- and there is one fewer that is spent
pub one_fewer : (moment number : ℕ) (sent : List Sent) → AreNumberedFrom 0 sent → IsTrue (is_one (is_spent moment) (sent_at number sent))
    → count_by (is_spent moment) (changed number (marked mark.Failed) sent) + 1 ≡ count_by (is_spent moment) sent
one_fewer moment number sent numbered spent =
    let parts : Parts number sent = parts_of (is_spent moment) number sent numbered spent in
    let one : is_spent moment parts.one ≡ true = passes (is_spent moment) number sent parts spent in
    let all : count_by (is_spent moment) (changed number (marked mark.Failed) sent) + cond (is_spent moment parts.one) 1 0 ≡ count_by (is_spent moment) sent + 0 =
    recounted (is_spent moment) number (marked mark.Failed) sent parts in
    let here : ◌≡◌ {A = ℕ} (cond (is_spent moment parts.one) 1 0) 1 = ap (λ b. cond b 1 0) one in
    omega (arith, all, here)

-- where none is spent, none expires
unspent_first : (b : Bool) (n : ℕ) → cond b 1 0 + n ≡ 0 → (b ≡ false) × (n ≡ 0)
unspent_first true n none = absurd (omega arith)
unspent_first false n none = (refl, omega arith)

pub none_fails : (moment : ℕ) (sent : List Sent) → count_by (is_spent moment) sent ≡ 0 → map (failed_if_spent moment) sent ≡ sent
none_fails moment [] none = refl
none_fails moment (s ∷ sent) none =
    let parts = unspent_first (is_spent moment s) (count_by (is_spent moment) sent) (sym (sum_by-cons (λ t. cond (is_spent moment t) 1 0) s sent) ∙ none) in
    ap (λ t. t ∷ map (failed_if_spent moment) sent) (cond-false _ _ _ parts.0) ∙ ap (λ rest. s ∷ rest) (none_fails moment sent parts.1)

-- the heap has as many due by a moment as are spent then
due_if_spent : (moment last : ℕ) (s : Sent) → s.last ≤ 253402300799999 → last ≡ min moment 18446744073709551614
    → is_due_in 0 last (watched (Some s)) ≡ is_spent moment s
due_if_spent moment last s dated is = elim (cases_Bool (is_pending s)) [
  | inr settled ↦ rw (watched_settled s settled, settled) refl
  | inl pending ↦ elim (cases_Bool (s.tries == s.submission.retries + 1)) [
    | inl exhausted ↦
        let small : due s < 18446744073709551615 = due_small s dated in
        let same : nat_le (due s) last ≡ nat_le (due s) moment = grind (arith, nat_tests) in
        let fails : failing_at s ≡ due s = cond-true _ _ _ exhausted in
        rw (watched_pending s pending, fails, same, pending, exhausted) refl
    | inr again ↦
        let never : nat_le 18446744073709551615 last ≡ false = grind (arith, nat_tests) in
        let fails : failing_at s ≡ 18446744073709551615 = cond-false _ _ _ again in
        rw (watched_pending s pending, fails, never, pending, again) refl
  ]
]

count_watched : (q : Option Place → Bool) (p : Sent → Bool) (places : List (Option Place)) (sent : List Sent)
    → ((n : ℕ) → option_and_then (λ place. place) (slice_get places n) ≡ watched (slice_get sent n)) → q None ≡ false
    → ((n : ℕ) (s : Sent) → slice_get sent n ≡ Some s → q (watched (Some s)) ≡ p s) → count_by q places ≡ count_by p sent
count_watched q p [] [] are none same = refl
count_watched q p [] (s ∷ sent) are none same =
    let first : ◌≡◌ {A = ℕ} (cond (p s) 1 0) 0 = ap (λ b. cond b 1 0) (sym (same zero s refl) ∙ ap q (sym (are zero)) ∙ none) in
    let rest : 0 ≡ count_by p sent = count_watched q p [] sent (λ n. are (suc n)) none (λ n t there. same (suc n) t there) in
    let one = sum_by-cons (λ t. cond (p t) 1 0) s sent in
    omega (arith, first, rest, one)
count_watched q p (place ∷ places) [] are none same =
    let first : ◌≡◌ {A = ℕ} (cond (q place) 1 0) 0 = ap (λ b. cond b 1 0) (ap q (are zero) ∙ none) in
    let rest : count_by q places ≡ 0 = count_watched q p places [] (λ n. are (suc n)) none (λ n t there. same (suc n) t there) in
    let one = sum_by-cons (λ x. cond (q x) 1 0) place places in
    omega (arith, first, rest, one)
count_watched q p (place ∷ places) (s ∷ sent) are none same =
    let first : ◌≡◌ {A = ℕ} (cond (q place) 1 0) (cond (p s) 1 0) = ap (λ b. cond b 1 0) (ap q (are zero) ∙ same zero s refl) in
    let rest : count_by q places ≡ count_by p sent = count_watched q p places sent (λ n. are (suc n)) none (λ n t there. same (suc n) t there) in
    let one = sum_by-cons (λ x. cond (q x) 1 0) place places in
    let other = sum_by-cons (λ t. cond (p t) 1 0) s sent in
    omega (arith, first, rest, one, other)

pub count_spent : (moment last : ℕ) (failing : Heaps) (sent : List Sent) → Watches failing sent → Stand sent → last ≡ min moment 18446744073709551614
    → count_by (is_due_in 0 last) failing.places ≡ count_by (is_spent moment) sent
unfolding standing_at
count_spent moment last failing sent are stand is =
    count_watched (is_due_in 0 last) (is_spent moment) failing.places sent are.each refl
    (λ n s there. due_if_spent moment last s (dated_at sent n s stand there) is)
