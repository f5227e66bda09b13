-- How each effect changes the submissions of an endpoint.
use Rattle.std.proofs.Common.{◌≡◌, ℕ, ◌+◌, ◌≤◌, ◌⊎◌, inl, inr, List, Bool, true, false, map, refl, sym, ap, ◌∙◌, subst, arith}
use Rattle.std.specs.Prelude.{◌==◌, nat_le, if◌then◌else◌}
use Rattle.std.proofs.lemmas.Bool.Decides.{nat_tests}
use Rattle.exchange_model.specs.Apply.{tried, marked, failed_if_spent, changed}
use Rattle.exchange_model.specs.Numbered.{AreNumberedFrom}
use Rattle.exchange_model.specs.Questions.{is_waiting, is_pending, is_pending_mark, is_spent}
use Rattle.as4_effects.specs.declared.mark.Mark.{Mark}
use Rattle.as4_effects.specs.declared.mark.Mark.TheVariants as mark
use Rattle.exchange_model.specs.declared.sent.Sent.{Sent}
use Rattle.exchange_model.specs.declared.what.What.{What}
use Rattle.exchange_model.specs.declared.what.What.TheVariants.{Tick}
use Rattle.exchange_model.proofs.ListLemmas.{Has}
use Rattle.exchange_laws.proofs.ListLemmas.{has_mapped}
use Rattle.exchange_laws.proofs.SentLemmas.{one_of_number, and_left, and_right}
use Rattle.exchange_laws.proofs.SentSteps.{Receipts, Fails, Causes, KeepsTries, IsChange, SentGoes, sent_map}

-- the test of numbers decides their equality
pub same_number : (a b : ℕ) → (a == b) ≡ true → a ≡ b
same_number a b e = grind (arith, nat_tests)

-- the change of one submission, if it has the number
abbrev one_changed : ℕ → (Sent → Sent) → Sent → Sent
one_changed number change s = if s.submission.number == number then change s else s

-- the proof obligations for a change of the submission of one number
pub record IsOneChange (what : What) (sent : List Sent) (number : ℕ) (change : Sent → Sent) : Type 0 where
  pub same : (s : Sent) → (change s).submission ≡ s.submission
  pub marked : (s : Sent) → Has sent s → s.submission.number ≡ number
      → (s.mark ≡ (change s).mark) ⊎ Causes what (change s).mark s.submission
  pub tries : (s : Sent) → Has sent s → s.submission.number ≡ number → KeepsTries s → KeepsTries (change s)
  pub settled : (s : Sent) → Has sent s → s.submission.number ≡ number → is_pending s ≡ false → change s ≡ s
  pub more : (s : Sent) → s.tries ≤ (change s).tries

-- a change of one submission is a change of each
one_change : (what : What) (sent : List Sent) (number : ℕ) (change : Sent → Sent) → IsOneChange what sent number change
    → IsChange what sent (one_changed number change)
one_change what sent number change c = record {
  same = λ s. same_by s (s.submission.number == number);
  marked = λ s h. marked_by s h (s.submission.number == number) refl;
  tries = λ s h. tries_by s h (s.submission.number == number) refl;
  settled = λ s h. settled_by s h (s.submission.number == number) refl;
  more = λ s. more_by s (s.submission.number == number);
}
  where
    same_by : (s : Sent) (b : Bool) → (if b then change s else s).submission ≡ s.submission
    same_by s true = c.same s
    same_by s false = refl

    marked_by : (s : Sent) → Has sent s → (b : Bool) → (s.submission.number == number) ≡ b
        → (s.mark ≡ (if b then change s else s).mark) ⊎ Causes what (if b then change s else s).mark s.submission
    marked_by s h true e = c.marked s h (same_number s.submission.number number e)
    marked_by s h false e = inl refl

    tries_by : (s : Sent) → Has sent s → (b : Bool) → (s.submission.number == number) ≡ b → KeepsTries s
        → KeepsTries (if b then change s else s)
    tries_by s h true e keeps = c.tries s h (same_number s.submission.number number e) keeps
    tries_by s h false e keeps = keeps

    more_by : (s : Sent) (b : Bool) → s.tries ≤ (if b then change s else s).tries
    more_by s true = c.more s
    more_by s false = omega arith

    settled_by : (s : Sent) → Has sent s → (b : Bool) → (s.submission.number == number) ≡ b → is_pending s ≡ false
        → (if b then change s else s) ≡ s
    settled_by s h true e m = c.settled s h (same_number s.submission.number number e) m
    settled_by s h false e m = refl

-- a change of the submission of one number
pub sent_changed : (what : What) (sent : List Sent) (number : ℕ) (change : Sent → Sent) → AreNumberedFrom 0 sent
    → IsOneChange what sent number change
    → SentGoes what sent (changed number change sent)
unfolding changed
sent_changed what sent number change numbered c =
    sent_map what sent (one_changed number change) numbered (one_change what sent number change c)

-- a waiting submission isn't expired, and a pending one isn't receipted
not_failed : (s : Sent) → is_waiting s ≡ true → s.mark ≡ mark.Failed → ⊥
not_failed s waits m = let p : is_pending s ≡ true = and_left _ _ waits in let q : false ≡ true = sym (ap is_pending_mark m) ∙ p in cc

not_both : (s : Sent) → is_pending s ≡ true → is_pending s ≡ false → ⊥
not_both s pending settled = let q : false ≡ true = sym settled ∙ pending in cc

-- each submission of this number is pending
abbrev pub IsPendingNumber : ℕ → List Sent → Type 0
IsPendingNumber number sent = (s : Sent) → Has sent s → s.submission.number ≡ number → is_pending s ≡ true

-- the number of a pending submission is pending
pub pending_number : (sent : List Sent) (s : Sent) → AreNumberedFrom 0 sent → Has sent s → is_pending s ≡ true
    → IsPendingNumber s.submission.number sent
pending_number sent s numbered h pending t k e =
    subst (λ (u : Sent). is_pending u ≡ true) (one_of_number sent s t numbered h k (sym e)) pending

-- and stays pending where another number is refused
pub pending_behind : (sent : List Sent) (number refused : ℕ) (code : List ℕ) → (number ≡ refused → ⊥) → IsPendingNumber number sent
    → IsPendingNumber number (changed refused (marked (mark.Refused code)) sent)
unfolding changed
pending_behind sent number refused code other pending t k =
    let o = has_mapped (one_changed refused (marked (mark.Refused code))) sent t k in
    by_test o.0 o.1 (o.0.submission.number == refused) refl o.2
  where
    by_test : (s : Sent) → Has sent s → (b : Bool) → (s.submission.number == refused) ≡ b → (if b then marked (mark.Refused code) s else s) ≡ t
        → t.submission.number ≡ number → is_pending t ≡ true
    by_test s h true e same n =
        absurd (other (sym (ap (λ (u : Sent). u.submission.number) same ∙ n) ∙ same_number s.submission.number refused e))
    by_test s h false e same n =
        subst (λ (u : Sent). is_pending u ≡ true) same (pending s h (ap (λ (u : Sent). u.submission.number) same ∙ n))

at_most : (a b : ℕ) → nat_le a b ≡ true → a + 1 ≤ b + 1
at_most a b h = grind (arith, nat_tests)

-- the head is sent once more
pub sent_tried : (what : What) (sent : List Sent) (s : Sent) (moment : ℕ) → AreNumberedFrom 0 sent → Has sent s → is_waiting s ≡ true
    → SentGoes what sent (changed s.submission.number (tried moment) sent)
sent_tried what sent s moment numbered h waits = sent_changed what sent s.submission.number (tried moment) numbered (record {
  same = λ t. refl;
  marked = λ t k e. inl refl;
  tries = λ t k e keeps. record {
    most = subst (λ (u : Sent). u.tries + 1 ≤ u.submission.retries + 1) (one_of_number sent s t numbered h k (sym e)) more_left;
    all = λ m. absurd (not_failed s waits (ap (λ (u : Sent). u.mark) (one_of_number sent s t numbered h k (sym e)) ∙ m));
  };
  settled = λ t k e m. absurd (not_both t (pending_number sent s numbered h (and_left (is_pending s) (nat_le s.tries s.submission.retries) waits) t k e) m);
  more = λ t. omega arith;
})
  where
    more_left : s.tries + 1 ≤ s.submission.retries + 1
    more_left = at_most s.tries s.submission.retries (and_right (is_pending s) (nat_le s.tries s.submission.retries) waits)

-- its receipt was received
pub sent_receipted : (what : What) (sent : List Sent) (s : Sent) → AreNumberedFrom 0 sent → Has sent s → is_pending s ≡ true
    → Receipts what s.submission → SentGoes what sent (changed s.submission.number (marked mark.Receipted) sent)
sent_receipted what sent s numbered h pending came = sent_changed what sent s.submission.number (marked mark.Receipted) numbered (record {
  same = λ t. refl;
  marked = λ t k e. inr (subst (λ (u : Sent). Receipts what u.submission) (one_of_number sent s t numbered h k (sym e)) came);
  tries = λ t k e keeps. record { most = keeps.most; all = λ m. absurd cc };
  settled = λ t k e m. absurd (not_both t (pending_number sent s numbered h pending t k e) m);
  more = λ t. omega arith;
})

-- an error for it was received
pub sent_refused : (what : What) (sent : List Sent) (number : ℕ) (code : List ℕ) → AreNumberedFrom 0 sent → IsPendingNumber number sent
    → ((s : Sent) → Has sent s → s.submission.number ≡ number → Fails what s.submission code)
    → SentGoes what sent (changed number (marked (mark.Refused code)) sent)
sent_refused what sent number code numbered pending fails = sent_changed what sent number (marked (mark.Refused code)) numbered (record {
  same = λ t. refl;
  marked = λ t k e. inr (fails t k e);
  tries = λ t k e keeps. record { most = keeps.most; all = λ m. absurd cc };
  settled = λ t k e m. absurd (not_both t (pending t k e) m);
  more = λ t. omega arith;
})

-- the clock is set
pub sent_ticked : (sent : List Sent) (moment : ℕ) → AreNumberedFrom 0 sent
    → SentGoes Tick sent (map (failed_if_spent moment) sent)
sent_ticked sent moment numbered = sent_map Tick sent (failed_if_spent moment) numbered (record {
  same = λ s. same_by s (is_spent moment s);
  marked = λ s h. marked_by s (is_spent moment s);
  tries = λ s h. tries_by s (is_spent moment s) refl;
  settled = λ s h. settled_by s (is_spent moment s) refl;
  more = λ s. more_by s (is_spent moment s);
})
  where
    same_by : (s : Sent) (b : Bool) → (if b then marked mark.Failed s else s).submission ≡ s.submission
    same_by s true = refl
    same_by s false = refl

    marked_by : (s : Sent) (b : Bool)
        → (s.mark ≡ (if b then marked mark.Failed s else s).mark) ⊎ Causes Tick (if b then marked mark.Failed s else s).mark s.submission
    marked_by s true = inr refl
    marked_by s false = inl refl

    tries_by : (s : Sent) (b : Bool) → is_spent moment s ≡ b → KeepsTries s → KeepsTries (if b then marked mark.Failed s else s)
    tries_by s true e keeps = record { most = keeps.most; all = λ m. same_number s.tries (s.submission.retries + 1) (and_left _ _ (and_right _ _ e)) }
    tries_by s false e keeps = keeps

    more_by : (s : Sent) (b : Bool) → s.tries ≤ (if b then marked mark.Failed s else s).tries
    more_by s true = omega arith
    more_by s false = omega arith

    settled_by : (s : Sent) (b : Bool) → is_spent moment s ≡ b → is_pending s ≡ false
        → (if b then marked mark.Failed s else s) ≡ s
    settled_by s true e m = absurd (not_both s (and_left (is_pending s) _ e) m)
    settled_by s false e m = refl
