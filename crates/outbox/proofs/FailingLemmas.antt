-- When pending submissions expire, by the heap that keeps them.
use Rattle.std.proofs.Common.{◌≡◌, ◌≢◌, ℕ, zero, suc, ◌+◌, ◌<◌, ◌≤◌, inl, inr, List, [], ◌∷◌, ◌++◌, Bool, true, false, cond, Option, Some, None, length, refl, sym, ap, subst, ◌∙◌, arith}
use Rattle.std.specs.Prelude.{◌==◌, IsTrue, count_by, nat_le, option_map, slice_get}
use Rattle.std.proofs.lemmas.Bool.{and_parts, cases_Bool, cases_eq, cond-true, cond-false, leb-true}
use Rattle.std.proofs.lemmas.Bool.Decides.{nat_tests}
use Rattle.std.proofs.lemmas.List.Sums.{sum_by-cons}
use Rattle.std.proofs.lemmas.Option.{get_or_from_slice_get, none-some, slice_get_past, slice_get_within}
use Rattle.due_heap.specs.Heaps.{HasPair, Heaps, Place, Sets, standing_at}
use Rattle.exchange_model.specs.Apply.{changed, is_one}
use Rattle.exchange_model.specs.Numbered.{AreNumberedFrom}
use Rattle.exchange_model.specs.Questions.{due, is_pending, is_pending_mark, is_spent, sent_at}
use Rattle.exchange_model.specs.declared.sent.Sent.{Sent}
use Rattle.exchange_model.proofs.NumberedLemmas.{place}
use Rattle.as4_effects.specs.declared.mark.Mark.{Mark}
use Rattle.as4_effects.specs.declared.mark.Mark.TheVariants as mark
use Rattle.outbox.specs.Failing.{Watches, failing_at, watched}
use Rattle.outbox.specs.Submissions.{Stand}
use Rattle.outbox.proofs.PartsLemmas.{length_changed}

-- the item after the last
get_last : {X : Type 0} (xs : List X) (x : X) → slice_get (xs ++ x ∷ []) (length xs) ≡ Some x
get_last [] x = refl
get_last (y ∷ xs) x = get_last xs x

get_other : {X : Type 0} (xs : List X) (x : X) (n : ℕ) → n ≢ length xs → slice_get (xs ++ x ∷ []) n ≡ slice_get xs n
get_other [] x zero other = absurd (other refl)
get_other [] x (suc n) other = refl
get_other (y ∷ xs) x zero other = refl
get_other (y ∷ xs) x (suc n) other = get_other xs x n (λ same. other (ap suc same))

-- one more submission is watched if it is pending
pub watches_push : (old new : Heaps) (before : List Sent) (s : Sent) → length before ≡ s.submission.number → 0 < new.count
    → Watches old before → Sets s.submission.number (watched (Some s)) old new → Watches new (before ++ s ∷ [])
watches_push old new before s next some are sets = record {
  each = λ n. elim (cases_eq n (length before)) [
    | inl same ↦
        ap (λ k. standing_at k new) (same ∙ next) ∙ sets.here
        ∙ ap watched (sym (get_last before s) ∙ ap (slice_get (before ++ s ∷ [])) (sym same))
    | inr other ↦
        sets.others n (λ same. other (same ∙ sym next)) ∙ (are.each n ∙ ap watched (sym (get_other before s n other)))
  ];
  heap = λ more. some;
}

-- the number after all submissions is in no heap
pub next_unwatched : (failing : Heaps) (sent : List Sent) → Watches failing sent → standing_at (length sent) failing ≡ None
next_unwatched failing sent are = are.each (length sent) ∙ ap watched (slice_get_past sent (length sent) (omega arith))

-- a change at a number changes the item there
changed_get : (from number k : ℕ) (f : Sent → Sent) (sent : List Sent) → AreNumberedFrom from sent
    → slice_get (changed number f sent) k ≡ option_map (λ s. cond (from + k == number) (f s) s) (slice_get sent k)
unfolding AreNumberedFrom changed
changed_get from number k f [] numbered = refl
changed_get from number zero f (s ∷ sent) numbered =
    let here : s.submission.number ≡ from + 0 = numbered.0 ∙ omega arith in
    ap (λ n. Some (cond (n == number) (f s) s)) here
changed_get from number (suc k) f (s ∷ sent) numbered =
    let there : suc from + k ≡ from + suc k = omega arith in
    changed_get (suc from) number k f sent numbered.1 ∙ ap (λ n. option_map (λ t. cond (n == number) (f t) t) (slice_get sent k)) there

-- a pending submission is watched with the moment at which it expires
pub watched_pending : (s : Sent) → IsTrue (is_pending s) → watched (Some s) ≡ Some (record { heap = 0; due = failing_at s })
watched_pending s pending = cond-true _ _ _ pending

-- a settled one isn't watched
pub watched_settled : (s : Sent) → is_pending s ≡ false → watched (Some s) ≡ None
watched_settled s settled = cond-false _ _ _ settled

-- the submission found by a number is at its place
pub at_place : (sent : List Sent) (number : ℕ) (s : Sent) → Stand sent → sent_at number sent ≡ Some s → slice_get sent number ≡ Some s
at_place sent number s stand found = sym (place number sent stand.numbered) ∙ found

kept : (b : Bool) (f : Sent → Sent) (o : Option Sent) → b ≡ false → option_map (λ t. cond b (f t) t) o ≡ o
kept b f None other = refl
kept b f (Some s) other = ap Some (cond-false _ _ _ other)

-- a submission is changed at its number, and the heap has its new state
pub watches_changed : (old new : Heaps) (sent : List Sent) (number : ℕ) (f : Sent → Sent) (s : Sent) → Stand sent → slice_get sent number ≡ Some s
    → Watches old sent → Sets number (watched (Some (f s))) old new → Watches new (changed number f sent)
watches_changed old new sent number f s stand there are sets = record {
  each = λ n. elim (cases_eq n number) [
    | inl same ↦
        let itself : (0 + n == number) ≡ true = grind (arith, nat_tests) in
        let now : slice_get (changed number f sent) n ≡ Some (f s) =
        changed_get 0 number n f sent stand.numbered ∙ ap (option_map (λ t. cond (0 + n == number) (f t) t)) (ap (slice_get sent) same ∙ there)
        ∙ ap Some (cond-true _ _ _ itself) in
        ap (λ k. standing_at k new) same ∙ sets.here ∙ ap watched (sym now)
    | inr other ↦
        let apart : (0 + n == number) ≡ false = grind (arith, nat_tests) in
        let now : slice_get (changed number f sent) n ≡ slice_get sent n =
        changed_get 0 number n f sent stand.numbered ∙ kept (0 + n == number) f (slice_get sent n) apart in
        sets.others n other ∙ are.each n ∙ ap watched (sym now)
  ];
  heap = λ some.
      let many : length (changed number f sent) ≡ length sent = length_changed number f sent in
      let before : 0 < old.count = are.heap (omega (arith, many)) in
      omega (arith, sets.count);
}

-- a mark other than `Pending` isn't pending
pub not_pending : (m : Mark) → (m ≡ mark.Pending → ⊥) → is_pending_mark m ≡ false
not_pending mark.Pending other = absurd (other refl)
not_pending mark.Receipted other = refl
not_pending mark.Failed other = refl
not_pending (mark.Refused code) other = refl

-- due moments are before the one past all others
either_small : (b : Bool) (m n : ℕ) → m < 18446744073709551615 → n < 18446744073709551615 → cond b m n < 18446744073709551615
either_small true m n small other = small
either_small false m n small other = other

pub dated_at : (sent : List Sent) (k : ℕ) (s : Sent) → Stand sent → slice_get sent k ≡ Some s → s.last ≤ 253402300799999
dated_at sent k s stand there =
    subst (λ (x : Sent). x.last ≤ 253402300799999) (get_or_from_slice_get sent k s s there)
    (stand.dated k s (slice_get_within sent k s there))

pub due_small : (s : Sent) → s.last ≤ 253402300799999 → due s < 18446744073709551615
due_small s dated =
    let period : s.submission.period ≤ 1000000000 = s.submission.timed.1 in
    let moment : s.submission.moment ≤ 253402300799999 = s.submission.dated in
    either_small (s.tries == 0) s.submission.moment (s.last + s.submission.period) (omega arith) (omega arith)

-- a pending submission that the heap has by a moment is spent then
due_in : Option Place → ℕ
due_in None = 0
due_in (Some p) = p.due

spent_at : (moment d : ℕ) (s : Sent) → failing_at s ≡ d → d ≤ moment → d < 18446744073709551615 → IsTrue (is_pending s) → IsTrue (is_spent moment s)
spent_at moment d s is before small pending = elim (cases_Bool (s.tries == s.submission.retries + 1)) [
  | inl last ↦
      let at : due s ≡ d = sym (cond-true _ _ _ last) ∙ is in
      let reached : nat_le (due s) moment ≡ true = grind (arith, nat_tests) in
      rw (pending, last, reached) refl
  | inr other ↦
      let never : 18446744073709551615 ≡ d = sym (cond-false _ _ _ other) ∙ is in
      absurd (omega arith)
]

pub found_spent : (moment d : ℕ) (o : Option Sent) → watched o ≡ Some (record { heap = 0; due = d }) → d ≤ moment → d < 18446744073709551615
    → IsTrue (is_one (is_spent moment) o)
unfolding due_in
found_spent moment d None is before small = absurd (cc)
found_spent moment d (Some s) is before small = elim (cases_Bool (is_pending s)) [
  | inl pending ↦ spent_at moment d s (ap due_in (sym (watched_pending s pending) ∙ is)) before small pending
  | inr settled ↦ absurd (none-some _ (sym (watched_settled s settled) ∙ is))
]

-- where the heap has none by a moment, none is spent then
count_none : (p : Sent → Bool) (sent : List Sent) → ((k : ℕ) (s : Sent) → slice_get sent k ≡ Some s → p s ≡ false) → count_by p sent ≡ 0
count_none p [] none = refl
count_none p (s ∷ sent) none =
    let first : ◌≡◌ {A = ℕ} (cond (p s) 1 0) 0 = ap (λ b. cond b 1 0) (none zero s refl) in
    let rest : count_by p sent ≡ 0 = count_none p sent (λ k t there. none (suc k) t there) in
    sum_by-cons (λ t. cond (p t) 1 0) s sent ∙ omega (arith, first, rest)

unspent : (moment : ℕ) (failing : Heaps) (sent : List Sent) → Watches failing sent → Stand sent
    → ((pair : ℕ × ℕ) → HasPair failing 0 pair → pair.0 ≤ moment → pair.0 < 18446744073709551615 → ⊥)
    → (k : ℕ) (s : Sent) → slice_get sent k ≡ Some s → is_spent moment s ≡ false
unspent moment failing sent are stand none k s there = elim (cases_Bool (is_spent moment s)) [
  | inl spent ↦
      let parts = and_parts _ _ spent in
      let ends = and_parts _ _ parts.1 in
      let has : standing_at k failing ≡ Some (record { heap = 0; due = due s }) =
      are.each k ∙ ap watched there ∙ watched_pending s parts.0 ∙ ap (λ d. Some (record { heap = 0; due = d })) (cond-true _ _ _ ends.0) in
      absurd (none (due s, k) has (leb-true (due s) moment ends.1) (due_small s (dated_at sent k s stand there)))
  | inr other ↦ other
]

pub none_spent : (moment : ℕ) (failing : Heaps) (sent : List Sent) → Watches failing sent → Stand sent
    → ((pair : ℕ × ℕ) → HasPair failing 0 pair → pair.0 ≤ moment → pair.0 < 18446744073709551615 → ⊥) → count_by (is_spent moment) sent ≡ 0
none_spent moment failing sent are stand none = count_none (is_spent moment) sent (unspent moment failing sent are stand none)
