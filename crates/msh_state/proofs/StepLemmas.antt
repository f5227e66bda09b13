-- The waiting submissions follow the changes of the submissions.
use Rattle.std.proofs.Common.{◌≡◌, ℕ, List, [], ◌∷◌, ◌++◌, Bool, IsTrue, true, false, eqb, Option, Some, None, option_map, map, length, ◌&&◌, ◌==◌, nat_le, refl, ap, sym, ◌∙◌, inl, inr}
use Rattle.std.proofs.lemmas.Bool.{and_parts, cond-true, cond-false, cases_eq, eq-eqb, eqb-true, ne_eqb}
use Rattle.std.proofs.lemmas.Option.{same_Some}
use Rattle.as4_effects.specs.declared.queue.Queue.{Queue}
use Rattle.as4_effects.specs.declared.submission.Submission.{Submission}
use Rattle.channels.specs.Queues.{inserted, waiting_at, without}
use Rattle.channels.specs.declared.waiting.Waiting.{Waiting}
use Rattle.msh_state.specs.Again.{with_again}
use Rattle.msh_state.specs.Rooms.{queue_at, queue_of_sent}
use Rattle.msh_state.specs.Waiting.{waiting_in, waiting_of}
use Rattle.msh_state.proofs.KeptLemmas.{tried_queue}
use Rattle.msh_state.proofs.NumberLemmas.{none_behind}
use Rattle.msh_state.proofs.QueueLemmas.{at_without, without_none}
use Rattle.msh_state.proofs.WaitingLemmas.{changed_with, failed_waits, pushed_waits, waited, waiting_there}
use Rattle.exchange_model.specs.Apply.{changed, failed_if_spent, is_one, marked, tried}
use Rattle.exchange_model.specs.Numbered.{AreNumberedFrom}
use Rattle.exchange_model.specs.Questions.{due, is_pending, is_pending_mark, is_waiting, queue_of, sent_at}
use Rattle.as4_effects.specs.declared.mark.Mark.{Mark}
use Rattle.exchange_model.specs.declared.sent.Sent.{Sent}
use Rattle.exchange_model.proofs.FoundLemmas.{sent_at_has}
use Rattle.exchange_model.proofs.ListLemmas.{Has}
use Rattle.exchange_model.proofs.NumberedLemmas.{itself, numbered_push}

-- a submission that doesn't exist yet doesn't wait
pub new_waits : (k : ℕ) (sent : List Sent) (waiting : List Waiting) → waiting ≡ waiting_in sent → AreNumberedFrom 0 sent → k ≡ length sent
    → waiting_at k waiting ≡ None
new_waits k sent waiting step stand e =
    ap (waiting_at k) step ∙ waiting_there k sent stand
    ∙ ap (λ n. waited (sent_at n sent)) e ∙ ap waited (none_behind sent stand)

-- the number of a new submission finds it
pushed_at : (sent : List Sent) (s : Sent) → AreNumberedFrom 0 sent → s.submission.number ≡ length sent
    → sent_at s.submission.number (sent ++ s ∷ []) ≡ Some s
pushed_at sent s stand e = itself 0 (sent ++ s ∷ []) s (numbered_push sent s stand e) (last_has sent)
  where
    last_has : (xs : List Sent) → Has (xs ++ s ∷ []) s
    last_has [] = inl refl
    last_has (x ∷ xs) = inr (last_has xs)

-- and it waits in its queue, if it waits
pub pushed_queue : (sent new : List Sent) (s : Sent) (queue : Queue) → AreNumberedFrom 0 sent → s.submission.number ≡ length sent
    → queue ≡ queue_of s.submission.route → new ≡ sent ++ s ∷ [] → queue ≡ queue_at s.submission.number new
pushed_queue sent new s queue stand e q changes =
    q ∙ ap queue_of_sent (sym (pushed_at sent s stand e)) ∙ ap (queue_at s.submission.number) (sym changes)

pub pushed_step : (sent new : List Sent) (s : Sent) (waiting now : List Waiting) → waiting ≡ waiting_in sent → AreNumberedFrom 0 sent
    → s.submission.number ≡ length sent → new ≡ sent ++ s ∷ [] → now ≡ with_again (sent_at s.submission.number new) waiting
    → now ≡ waiting_in new
pushed_step sent new s waiting now step stand e changes puts =
    puts
    ∙ ap (λ xs. with_again (sent_at s.submission.number xs) waiting) changes
    ∙ ap (λ o. with_again o waiting) (pushed_at sent s stand e)
    ∙ ap (with_again (Some s)) step
    ∙ sym (pushed_waits sent s stand e)
    ∙ ap waiting_in (sym changes)

-- none that expires was waiting
pub failed_step : (moment : ℕ) (sent new : List Sent) (waiting : List Waiting) → waiting ≡ waiting_in sent
    → new ≡ map (failed_if_spent moment) sent → waiting ≡ waiting_in new
failed_step moment sent new waiting step changes = step ∙ sym (failed_waits moment sent) ∙ ap waiting_in (sym changes)

is_one_waiting : (s : Sent) (queue : Queue) (d k : ℕ) → queue ≡ queue_of s.submission.route → d ≡ due s → s.submission.number ≡ k
    → ◌≡◌ {A = Waiting} (waiting_of s) (record { queue = queue; due = d; number = k })
is_one_waiting s queue d k q e n = cc

-- a waiting one waits in its queue, until it is due
there_of : (k : ℕ) (o : Option Sent) (queue : Queue) (d : ℕ) → ((s : Sent) → o ≡ Some s → s.submission.number ≡ k) → is_one is_waiting o ≡ true
    → Some d ≡ option_map due o → queue ≡ queue_of_sent o → waited o ≡ Some (record { queue = queue; due = d; number = k })
there_of k None queue d number w e q = cc
there_of k (Some s) queue d number w e q =
    cond-true (is_waiting s) (Some (waiting_of s)) None w ∙ ap Some (is_one_waiting s queue d k q (same_Some d (due s) e) (number s refl))

pub waits_there : (k : ℕ) (sent : List Sent) (waiting : List Waiting) (queue : Queue) (d : ℕ) → waiting ≡ waiting_in sent → AreNumberedFrom 0 sent
    → is_one is_waiting (sent_at k sent) ≡ true → Some d ≡ option_map due (sent_at k sent) → queue ≡ queue_at k sent
    → waiting_at k waiting ≡ Some (record { queue = queue; due = d; number = k })
waits_there k sent waiting queue d step stand w e q =
    ap (waiting_at k) step ∙ waiting_there k sent stand
    ∙ there_of k (sent_at k sent) queue d (λ s at. (sent_at_has k sent s at).1) w e q

not_waited : (o : Option Sent) → is_one is_waiting o ≡ false → waited o ≡ None
not_waited None w = refl
not_waited (Some s) w = cond-false (is_waiting s) (Some (waiting_of s)) None w

-- where one doesn't wait, nothing is removed
pub waits_nowhere : (k : ℕ) (sent : List Sent) (waiting : List Waiting) → waiting ≡ waiting_in sent → AreNumberedFrom 0 sent
    → is_one is_waiting (sent_at k sent) ≡ false → waiting ≡ without k waiting
waits_nowhere k sent waiting step stand w =
    sym (without_none k waiting (ap (waiting_at k) step ∙ waiting_there k sent stand ∙ not_waited (sent_at k sent) w))

-- one that is put back waits again
again_of : (k : ℕ) (o : Option Sent) (queue : Queue) (d : ℕ) (waiting : List Waiting) → ((s : Sent) → o ≡ Some s → s.submission.number ≡ k)
    → is_one is_waiting o ≡ true → Some d ≡ option_map due o → queue ≡ queue_of_sent o
    → inserted (record { queue = queue; due = d; number = k }) waiting ≡ with_again o waiting
again_of k None queue d waiting number w e q = cc
again_of k (Some s) queue d waiting number w e q =
    ap (λ (x : Waiting). inserted x waiting) (sym (is_one_waiting s queue d k q (same_Some d (due s) e) (number s refl)))
    ∙ sym (cond-true (is_waiting s) (inserted (waiting_of s) waiting) waiting w)

pub put_again : (k : ℕ) (sent : List Sent) (queue : Queue) (d : ℕ) (waiting : List Waiting)
    → is_one is_waiting (sent_at k sent) ≡ true → Some d ≡ option_map due (sent_at k sent) → queue ≡ queue_at k sent
    → inserted (record { queue = queue; due = d; number = k }) waiting ≡ with_again (sent_at k sent) waiting
put_again k sent queue d waiting w e q =
    again_of k (sent_at k sent) queue d waiting (λ s at. (sent_at_has k sent s at).1) w e q

sent_at-changed : (k : ℕ) (f : Sent → Sent) → ((s : Sent) → (f s).submission ≡ s.submission) → (sent : List Sent)
    → sent_at k (changed k f sent) ≡ option_map f (sent_at k sent)
unfolding changed
sent_at-changed k f same [] = refl
sent_at-changed k f same (s ∷ sent) =
    elim (cases_eq s.submission.number k) [
      | inl e ↦ ap (λ x. sent_at k (x ∷ changed k f sent)) (cond-true (eqb s.submission.number k) (f s) s (eq-eqb s.submission.number k e))
          ∙ cond-true (eqb (f s).submission.number k) (Some (f s)) (sent_at k (changed k f sent)) (ap (λ (x : Submission). eqb x.number k) (same s) ∙ eq-eqb s.submission.number k e)
          ∙ ap (option_map f) (sym (cond-true (eqb s.submission.number k) (Some s) (sent_at k sent) (eq-eqb s.submission.number k e)))
      | inr d ↦ ap (λ x. sent_at k (x ∷ changed k f sent)) (cond-false (eqb s.submission.number k) (f s) s (ne_eqb s.submission.number k d))
          ∙ cond-false (eqb s.submission.number k) (Some s) (sent_at k (changed k f sent)) (ne_eqb s.submission.number k d)
          ∙ sent_at-changed k f same sent
          ∙ ap (option_map f) (sym (cond-false (eqb s.submission.number k) (Some s) (sent_at k sent) (ne_eqb s.submission.number k d)))
    ]

changed_of : (k : ℕ) (f : Sent → Sent) → ((s : Sent) → (f s).submission ≡ s.submission) → (sent : List Sent) → AreNumberedFrom 0 sent → (o : Option Sent)
    → sent_at k sent ≡ o → is_one (λ s. true) o ≡ true → waiting_in (changed k f sent) ≡ with_again (option_map f o) (without k (waiting_in sent))
changed_of k f same sent h None at one = cc
changed_of k f same sent h (Some s) at one =
    changed_with 0 k f sent s h at (ap (λ (x : Submission). x.number) (same s) ∙ (sent_at_has k sent s at).1)

is_there_if : (test : Sent → Bool) (o : Option Sent) → IsTrue (is_one test o) → is_one (λ s. true) o ≡ true
is_there_if test None h = h
is_there_if test (Some s) h = refl

-- one that was sent and put back keeps the queues in step
pub tried_step : (k moment : ℕ) (sent new : List Sent) (waiting out now : List Waiting) → waiting ≡ waiting_in sent → AreNumberedFrom 0 sent
    → IsTrue (is_one is_waiting (sent_at k sent)) → out ≡ without k waiting → new ≡ changed k (tried moment) sent → now ≡ with_again (sent_at k new) out
    → now ≡ waiting_in new
tried_step k moment sent new waiting out now step stand w takes changes puts =
    puts
    ∙ ap (λ xs. with_again (sent_at k xs) out) changes
    ∙ ap (λ ws. with_again (sent_at k (changed k (tried moment) sent)) ws) (takes ∙ ap (without k) step)
    ∙ ap (λ o. with_again o (without k (waiting_in sent))) (sent_at-changed k (tried moment) (λ s. refl) sent)
    ∙ sym (changed_of k (tried moment) (λ s. refl) sent stand (sent_at k sent) refl (is_there_if is_waiting (sent_at k sent) w))
    ∙ ap waiting_in (sym changes)

marked_gone : (m : Mark) (o : Option Sent) (waiting : List Waiting) → is_pending_mark m ≡ false → with_again (option_map (marked m) o) waiting ≡ waiting
marked_gone m None waiting e = refl
marked_gone m (Some s) waiting e =
    cond-false (is_waiting (marked m s)) (inserted (waiting_of (marked m s)) waiting) waiting (ap (λ b. b && nat_le s.tries s.submission.retries) e)

-- a settled one no longer waits
pub settled_step : (k : ℕ) (m : Mark) (sent new : List Sent) (waiting now : List Waiting) → is_pending_mark m ≡ false → waiting ≡ waiting_in sent → AreNumberedFrom 0 sent
    → IsTrue (is_one is_pending (sent_at k sent)) → now ≡ without k waiting → new ≡ changed k (marked m) sent → now ≡ waiting_in new
settled_step k m sent new waiting now settled step stand w takes changes =
    takes ∙ ap (without k) step
    ∙ sym (marked_gone m (sent_at k sent) (without k (waiting_in sent)) settled)
    ∙ sym (changed_of k (marked m) (λ s. refl) sent stand (sent_at k sent) refl (is_there_if is_pending (sent_at k sent) w))
    ∙ ap waiting_in (sym changes)

-- a removed one is not there
pub gone_out : (k : ℕ) (waiting out : List Waiting) → out ≡ without k waiting → waiting_at k out ≡ None
gone_out k waiting out e = ap (waiting_at k) e ∙ at_without k waiting

-- a try leaves it in its queue
pub tried_in : (k moment : ℕ) (sent new : List Sent) (queue : Queue) → queue ≡ queue_at k sent → new ≡ changed k (tried moment) sent → queue ≡ queue_at k new
tried_in k moment sent new queue q changes = q ∙ sym (tried_queue k moment k sent) ∙ ap (queue_at k) (sym changes)

-- a submission that fits as the next one has the next number
pub next_number : (k : ℕ) (sent : List Sent) (own : Bool) → IsTrue ((k == length sent) && own) → k ≡ length sent
next_number k sent own fit = eqb-true _ _ (and_parts _ _ fit).0

pub carried_number : (early : Bool) (k : ℕ) (sent : List Sent) (own tries : Bool) → IsTrue (early && (((k == length sent) && own) && tries)) → k ≡ length sent
carried_number early k sent own tries fit = next_number k sent own (and_parts _ _ (and_parts _ _ fit).1).0
