-- How the waiting submissions change when a submission changes.
use Rattle.std.proofs.Common.{◌≡◌, ℕ, suc, ◌+◌, ◌<◌, ◌≤◌, List, [], ◌∷◌, ◌++◌, true, false, cond, eqb, Option, Some, None, map, length, refl, ap, sym, ◌∙◌, arith, inl, inr, subst}
use Rattle.std.proofs.lemmas.Bool.{eq-eqb, ne_eqb, cond-true, cond-false, cases_eq, cases_Bool}
use Rattle.std.proofs.lemmas.Option.{none-some, same_Some}
use Rattle.std.proofs.lemmas.Bool.Decides.{nat_tests}
use Rattle.channels.specs.Queues.{inserted, waiting_at, without}
use Rattle.channels.specs.declared.waiting.Waiting.{Waiting}
use Rattle.exchange_model.specs.Apply.{changed, failed_if_spent, marked}
use Rattle.exchange_model.specs.Numbered.{AreNumberedFrom}
use Rattle.exchange_model.specs.Questions.{is_spent, is_waiting, sent_at}
use Rattle.as4_effects.specs.declared.mark.Mark.TheVariants as mark
use Rattle.exchange_model.specs.declared.sent.Sent.{Sent}
use Rattle.exchange_model.proofs.FoundLemmas.{sent_at_has}
use Rattle.exchange_model.proofs.NumberedLemmas.{changed_before, number_least}
use Rattle.msh_state.specs.Again.{with_again}
use Rattle.msh_state.specs.Waiting.{waiting_in, waiting_of}
use Rattle.msh_state.proofs.QueueLemmas.{AreAbove, above_at, above_inserted, above_without, inserted_after, without_other, without_same}

waits_first : (s : Sent) (sent : List Sent) → is_waiting s ≡ true → waiting_in (s ∷ sent) ≡ waiting_of s ∷ waiting_in sent
unfolding waiting_in
waits_first s sent e = ap (map waiting_of) (cond-true (is_waiting s) _ _ e)

not_first : (s : Sent) (sent : List Sent) → is_waiting s ≡ false → waiting_in (s ∷ sent) ≡ waiting_in sent
unfolding waiting_in
not_first s sent e = ap (map waiting_of) (cond-false (is_waiting s) _ _ e)

pub none_waits : waiting_in [] ≡ []
unfolding waiting_in
none_waits = refl

-- the later submissions have greater numbers
above : (n k : ℕ) (sent : List Sent) → AreNumberedFrom n sent → k < n → AreAbove k (waiting_in sent)
unfolding AreNumberedFrom
above n k [] h l = rw none_waits tt
above n k (s ∷ sent) h l =
    let rest : AreAbove k (waiting_in sent) = above (suc n) k sent h.1 (omega arith) in
    elim (cases_Bool (is_waiting s)) [
      | inl e ↦ rw (waits_first s sent e) (omega (arith, h.0), rest)
      | inr e ↦ rw (not_first s sent e) rest
    ]

changed_same : (k : ℕ) (f : Sent → Sent) (s : Sent) (sent : List Sent) → s.submission.number ≡ k → changed k f (s ∷ sent) ≡ f s ∷ changed k f sent
unfolding changed
changed_same k f s sent e = ap (λ x. x ∷ changed k f sent) (cond-true _ (f s) s (eq-eqb s.submission.number k e))

changed_other : (k : ℕ) (f : Sent → Sent) (s : Sent) (sent : List Sent) → (s.submission.number ≡ k → ⊥) → changed k f (s ∷ sent) ≡ s ∷ changed k f sent
unfolding changed
changed_other k f s sent d = ap (λ x. x ∷ changed k f sent) (cond-false _ (f s) s (ne_eqb s.submission.number k d))

-- in a list that begins with the number, all others remain
rest_without : (n : ℕ) (s : Sent) (sent : List Sent) → s.submission.number ≡ n → AreNumberedFrom (suc n) sent → without n (waiting_in (s ∷ sent)) ≡ waiting_in sent
rest_without n s sent e h =
    let stays = above_without n (waiting_in sent) (above (suc n) n sent h (omega arith)) in
    elim (cases_Bool (is_waiting s)) [
      | inl w ↦ rw (waits_first s sent w) (without_same n (waiting_of s) (waiting_in sent) e ∙ stays)
      | inr w ↦ rw (not_first s sent w) stays
    ]

behind : (n k : ℕ) (sent : List Sent) (s : Sent) → AreNumberedFrom n sent → sent_at k sent ≡ Some s → n ≤ k
behind n k sent s h e = let there = sent_at_has k sent s e in omega (arith, there.1, number_least n sent s h there.0)

with_first : (s : Sent) (sent : List Sent) (n : ℕ) → s.submission.number ≡ n → AreNumberedFrom (suc n) sent → waiting_in (s ∷ sent) ≡ with_again (Some s) (waiting_in sent)
with_first s sent n e h =
    elim (cases_Bool (is_waiting s)) [
      | inl w ↦ waits_first s sent w ∙ sym (above_inserted (waiting_of s) (waiting_in sent) (above (suc n) s.submission.number sent h (omega arith)))
          ∙ sym (cond-true (is_waiting s) (inserted (waiting_of s) (waiting_in sent)) (waiting_in sent) w)
      | inr w ↦ not_first s sent w ∙ sym (cond-false (is_waiting s) (inserted (waiting_of s) (waiting_in sent)) (waiting_in sent) w)
    ]

with_after : (s : Sent) (w : Waiting) (ws : List Waiting) → w.number ≤ s.submission.number → with_again (Some s) (w ∷ ws) ≡ w ∷ with_again (Some s) ws
with_after s w ws l =
    elim (is_waiting s) as (λ b. cond b (inserted (waiting_of s) (w ∷ ws)) (w ∷ ws) ≡ w ∷ cond b (inserted (waiting_of s) ws) ws)
    [ true ↦ inserted_after (waiting_of s) w ws l | false ↦ refl ]

changed_here : (k : ℕ) (f : Sent → Sent) (x : Sent) (sent : List Sent) (s : Sent) → x.submission.number ≡ k → AreNumberedFrom (suc k) sent → x ≡ s
    → (f s).submission.number ≡ k → waiting_in (changed k f (x ∷ sent)) ≡ with_again (Some (f s)) (without k (waiting_in (x ∷ sent)))
changed_here k f x sent s same h is e =
    ap waiting_in (changed_same k f x sent same)
    ∙ ap (λ xs. waiting_in (f x ∷ xs)) (changed_before (suc k) k f sent h (omega arith))
    ∙ ap (λ y. waiting_in (f y ∷ sent)) is
    ∙ with_first (f s) sent k e h
    ∙ ap (with_again (Some (f s))) (sym (rest_without k x sent same h))

changed_there : (k : ℕ) (f : Sent → Sent) (x : Sent) (sent : List Sent) (s : Sent) → x.submission.number < k → (f s).submission.number ≡ k
    → waiting_in (changed k f sent) ≡ with_again (Some (f s)) (without k (waiting_in sent))
    → waiting_in (changed k f (x ∷ sent)) ≡ with_again (Some (f s)) (without k (waiting_in (x ∷ sent)))
changed_there k f x sent s l e rest =
    let d : x.submission.number ≡ k → ⊥ = λ same. omega arith in
    ap waiting_in (changed_other k f x sent d)
    ∙ elim (cases_Bool (is_waiting x)) [
      | inl w ↦ waits_first x (changed k f sent) w
          ∙ ap (λ ws. waiting_of x ∷ ws) rest
          ∙ sym (with_after (f s) (waiting_of x) (without k (waiting_in sent)) (omega arith))
          ∙ ap (with_again (Some (f s))) (sym (without_other k (waiting_of x) (waiting_in sent) d) ∙ sym (ap (without k) (waits_first x sent w)))
      | inr w ↦ not_first x (changed k f sent) w ∙ rest ∙ ap (λ ws. with_again (Some (f s)) (without k ws)) (sym (not_first x sent w))
    ]

-- a changed submission waits again if it may, and else it is gone
pub changed_with : (n k : ℕ) (f : Sent → Sent) (sent : List Sent) (s : Sent) → AreNumberedFrom n sent → sent_at k sent ≡ Some s
    → (f s).submission.number ≡ k → waiting_in (changed k f sent) ≡ with_again (Some (f s)) (without k (waiting_in sent))
unfolding AreNumberedFrom
changed_with n k f [] s h at e = absurd (none-some s at)
changed_with n k f (x ∷ sent) s h at e =
    elim (cases_eq x.submission.number k) [
      | inl same ↦ changed_here k f x sent s same (subst (λ m. AreNumberedFrom (suc m) sent) (sym h.0 ∙ same) h.1)
          (same_Some x s (sym (cond-true (eqb x.submission.number k) (Some x) (sent_at k sent) (eq-eqb x.submission.number k same)) ∙ at)) e
      | inr d ↦
          let there : sent_at k sent ≡ Some s = sym (cond-false (eqb x.submission.number k) (Some x) (sent_at k sent) (ne_eqb x.submission.number k d)) ∙ at in
          let l : suc n ≤ k = behind (suc n) k sent s h.1 there in
          changed_there k f x sent s (omega (arith, h.0)) e (changed_with (suc n) k f sent s h.1 there e)
    ]

-- a new one at the end waits last, if it waits
pushed_from : (n : ℕ) (sent : List Sent) (s : Sent) → AreNumberedFrom n sent → s.submission.number ≡ n + length sent
    → waiting_in (sent ++ s ∷ []) ≡ with_again (Some s) (waiting_in sent)
unfolding AreNumberedFrom
pushed_from n [] s h e = with_first s [] n (e ∙ omega arith) tt
pushed_from n (x ∷ sent) s h e =
    let rest = pushed_from (suc n) sent s h.1 (omega arith) in
    elim (cases_Bool (is_waiting x)) [
      | inl w ↦ waits_first x (sent ++ s ∷ []) w
          ∙ ap (λ ws. waiting_of x ∷ ws) rest
          ∙ sym (with_after s (waiting_of x) (waiting_in sent) (omega (arith, h.0)))
          ∙ ap (with_again (Some s)) (sym (waits_first x sent w))
      | inr w ↦ not_first x (sent ++ s ∷ []) w ∙ rest ∙ ap (with_again (Some s)) (sym (not_first x sent w))
    ]

pub pushed_waits : (sent : List Sent) (s : Sent) → AreNumberedFrom 0 sent → s.submission.number ≡ length sent
    → waiting_in (sent ++ s ∷ []) ≡ with_again (Some s) (waiting_in sent)
pushed_waits sent s h e = pushed_from 0 sent s h (e ∙ omega arith)

-- none that is spent waits
spent_waits : (moment : ℕ) (s : Sent) → is_spent moment s ≡ true → is_waiting s ≡ false
spent_waits moment s e = grind (arith, nat_tests)

failed_rest : (moment : ℕ) (s : Sent) (sent more : List Sent) → waiting_in more ≡ waiting_in sent → waiting_in (failed_if_spent moment s ∷ more) ≡ waiting_in (s ∷ sent)
failed_rest moment s sent more rest =
    elim (cases_Bool (is_spent moment s)) [
      | inl e ↦ ap (λ x. waiting_in (x ∷ more)) (cond-true (is_spent moment s) (marked mark.Failed s) s e)
          ∙ not_first (marked mark.Failed s) more refl ∙ rest ∙ sym (not_first s sent (spent_waits moment s e))
      | inr e ↦ ap (λ x. waiting_in (x ∷ more)) (cond-false (is_spent moment s) (marked mark.Failed s) s e)
          ∙ elim (cases_Bool (is_waiting s)) [
            | inl w ↦ waits_first s more w ∙ ap (λ ws. waiting_of s ∷ ws) rest ∙ sym (waits_first s sent w)
            | inr w ↦ not_first s more w ∙ rest ∙ sym (not_first s sent w)
          ]
    ]

-- letting the spent ones expire doesn't change the waiting ones
pub failed_waits : (moment : ℕ) (sent : List Sent) → waiting_in (map (failed_if_spent moment) sent) ≡ waiting_in sent
failed_waits moment [] = refl
failed_waits moment (s ∷ sent) = failed_rest moment s sent (map (failed_if_spent moment) sent) (failed_waits moment sent)

-- the waiting entry of a submission that may exist
abbrev pub waited : Option Sent → Option Waiting
waited None = None
waited (Some s) = cond (is_waiting s) (Some (waiting_of s)) None

at_first : (n k : ℕ) (s : Sent) (sent : List Sent) → s.submission.number ≡ n → s.submission.number ≡ k → AreNumberedFrom (suc n) sent
    → waiting_at k (waiting_in (s ∷ sent)) ≡ waited (sent_at k (s ∷ sent))
at_first n k s sent e same h =
    let first : sent_at k (s ∷ sent) ≡ Some s = cond-true (eqb s.submission.number k) (Some s) (sent_at k sent) (eq-eqb s.submission.number k same) in
    elim (cases_Bool (is_waiting s)) [
      | inl w ↦ ap (waiting_at k) (waits_first s sent w)
          ∙ cond-true (eqb s.submission.number k) (Some (waiting_of s)) (waiting_at k (waiting_in sent)) (eq-eqb s.submission.number k same)
          ∙ sym (cond-true (is_waiting s) (Some (waiting_of s)) None w) ∙ ap waited (sym first)
      | inr w ↦ ap (waiting_at k) (not_first s sent w) ∙ above_at k (waiting_in sent) (above (suc n) k sent h (omega arith))
          ∙ sym (cond-false (is_waiting s) (Some (waiting_of s)) None w) ∙ ap waited (sym first)
    ]

at_other : (k : ℕ) (s : Sent) (sent : List Sent) → (s.submission.number ≡ k → ⊥) → waiting_at k (waiting_in (s ∷ sent)) ≡ waiting_at k (waiting_in sent)
at_other k s sent d =
    elim (cases_Bool (is_waiting s)) [
      | inl w ↦ ap (waiting_at k) (waits_first s sent w)
          ∙ cond-false (eqb s.submission.number k) (Some (waiting_of s)) (waiting_at k (waiting_in sent)) (ne_eqb s.submission.number k d)
      | inr w ↦ ap (waiting_at k) (not_first s sent w)
    ]

-- the number of a waiting one finds it
at_from : (n k : ℕ) (sent : List Sent) → AreNumberedFrom n sent → waiting_at k (waiting_in sent) ≡ waited (sent_at k sent)
unfolding AreNumberedFrom
at_from n k [] h = ap (waiting_at k) none_waits
at_from n k (s ∷ sent) h =
    elim (cases_eq s.submission.number k) [
      | inl same ↦ at_first n k s sent h.0 same h.1
      | inr d ↦ at_other k s sent d ∙ at_from (suc n) k sent h.1 ∙ ap waited (sym (cond-false (eqb s.submission.number k) (Some s) (sent_at k sent) (ne_eqb s.submission.number k d)))
    ]

pub waiting_there : (k : ℕ) (sent : List Sent) → AreNumberedFrom 0 sent → waiting_at k (waiting_in sent) ≡ waited (sent_at k sent)
waiting_there k sent h = at_from 0 k sent h
