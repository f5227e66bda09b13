-- The states of the submissions of a reached endpoint.
use Rattle.std.proofs.Common.{◌≡◌, ℕ, ◌+◌, ◌≤◌, ◌⊎◌, inl, inr, List, [], ◌∷◌, ◌++◌, Bool, true, false, Option, Some, None, length, map, refl, sym, ◌∙◌, subst, arith}
use Rattle.std.specs.Prelude.{◌==◌, ◌&&◌, nat_le, if◌then◌else◌}
use Rattle.std.proofs.lemmas.Bool.{eqb-true}
use Rattle.std.proofs.lemmas.Bool.Decides.{nat_tests}
use Rattle.as4_effects.specs.declared.carried.Carried.{Carried}
use Rattle.as4_effects.specs.declared.mark.Mark.{Mark}
use Rattle.as4_effects.specs.declared.mark.Mark.TheVariants as mark
use Rattle.as4_effects.specs.declared.submission.Submission.{Submission}
use Rattle.exchange_model.specs.Apply.{are_tries, as_carried, changed, failed_if_spent, is_one, marked, tried, unsent}
use Rattle.exchange_model.specs.Numbered.{AreNumberedFrom}
use Rattle.exchange_model.specs.Questions.{due, is_failed_mark, is_pending, is_pending_mark, is_spent, is_waiting, sent_at}
use Rattle.exchange_model.specs.declared.sent.Sent.{Sent}
use Rattle.exchange_model.proofs.FoundLemmas.{sent_at_has}
use Rattle.exchange_model.proofs.ListLemmas.{Has}
use Rattle.exchange_model.proofs.NumberedLemmas.{numbered_push}
use Rattle.exchange_laws.proofs.ListLemmas.{has_either, has_mapped}
use Rattle.exchange_laws.proofs.SentLemmas.{and_left, and_right, numbered_map, one_of_number}

-- at this moment, the tries of a submission and its state agree
pub record IsStanding (moment : ℕ) (s : Sent) : Type 0 where
  pub tries : are_tries s ≡ true
  pub last : s.last ≤ 253402300799999
  pub unspent : is_spent moment s ≡ false

pub unsent_stands : (moment : ℕ) (s : Submission) → IsStanding moment (unsent s)
unsent_stands moment s = record {
  tries = grind (arith, nat_tests);
  last = omega arith;
  unspent = grind (arith, nat_tests);
}

-- at first, no submission that was sent is overdue, because a period is at least 1
pub carried_stands : (c : Carried) → are_tries (as_carried c) ≡ true → IsStanding 0 (as_carried c)
carried_stands c tries = record {
  tries = tries;
  last = c.dated;
  unspent = let timed = c.submission.timed in let long = timed.0 in grind (arith, nat_tests);
}

pending_unfailed : (m : Mark) → is_pending_mark m ≡ true → is_failed_mark m ≡ false
pending_unfailed mark.Pending e = refl
pending_unfailed mark.Receipted e = refl
pending_unfailed mark.Failed e = absurd cc
pending_unfailed (mark.Refused code) e = refl

-- sent once more
pub tried_stands : (moment : ℕ) (s : Sent) → moment ≤ 253402300799999 → is_waiting s ≡ true → IsStanding moment s
    → IsStanding moment (tried moment s)
tried_stands moment s dated waits stands = record {
  tries =
      let unfailed : is_failed_mark s.mark ≡ false = pending_unfailed s.mark (and_left (is_pending s) (nat_le s.tries s.submission.retries) waits) in
      let fewer : nat_le s.tries s.submission.retries ≡ true = and_right (is_pending s) (nat_le s.tries s.submission.retries) waits in
      grind (arith, nat_tests);
  last = dated;
  unspent = let timed = s.submission.timed in let long = timed.0 in grind (arith, nat_tests);
}

-- receipted or refused
pub settled_stands : (moment : ℕ) (m : Mark) (s : Sent) → is_pending_mark m ≡ false → is_failed_mark m ≡ false → IsStanding moment s
    → IsStanding moment (marked m s)
settled_stands moment m s settled unfailed stands = record {
  tries = let tries = stands.tries in grind (arith, nat_tests);
  last = stands.last;
  unspent = rw settled refl;
}

all_tries : (moment : ℕ) (s : Sent) → is_spent moment s ≡ true → (s.tries == s.submission.retries + 1) ≡ true
all_tries moment s e =
    let last : Bool = s.tries == s.submission.retries + 1 in
    let late : Bool = nat_le (due s) moment in
    and_left last late (and_right (is_pending s) (last && late) e)

-- the clock is set
pub ticked_stands : (old moment : ℕ) (s : Sent) → IsStanding old s → IsStanding moment (failed_if_spent moment s)
ticked_stands old moment s stands = by_test (is_spent moment s) refl
  where
    by_test : (b : Bool) → is_spent moment s ≡ b → IsStanding moment (if b then marked mark.Failed s else s)
    by_test true e = record {
      tries = let tries = stands.tries in let spent = all_tries moment s e in grind (arith, nat_tests);
      last = stands.last;
      unspent = refl;
    }
    by_test false e = record { tries = stands.tries; last = stands.last; unspent = e }

-- the submissions of an endpoint are at the places of their numbers, and each agrees with its tries
pub record AreStanding (moment : ℕ) (sent : List Sent) : Type 0 where
  pub numbered : AreNumberedFrom 0 sent
  pub each : (s : Sent) → Has sent s → IsStanding moment s

-- the next one
pub standing_push : (moment : ℕ) (sent : List Sent) (s : Sent) → s.submission.number ≡ length sent → IsStanding moment s
    → AreStanding moment sent → AreStanding moment (sent ++ s ∷ [])
standing_push moment sent s next stands all = record {
  numbered = numbered_push sent s all.numbered next;
  each = λ t h. either t (has_either sent (s ∷ []) t h);
}
  where
    either : (t : Sent) → Has sent t ⊎ Has (s ∷ []) t → IsStanding moment t
    either t (inl old) = all.each t old
    either t (inr (inl e)) = subst (IsStanding moment) e stands
    either t (inr (inr none)) = absurd none

-- each one changed
pub standing_mapped : (old moment : ℕ) (sent : List Sent) (f : Sent → Sent) → ((s : Sent) → (f s).submission ≡ s.submission)
    → ((s : Sent) → Has sent s → IsStanding old s → IsStanding moment (f s)) → AreStanding old sent → AreStanding moment (map f sent)
standing_mapped old moment sent f same goes all = record {
  numbered = numbered_map 0 f sent same all.numbered;
  each = λ t h. let o = has_mapped f sent t h in subst (IsStanding moment) o.2 (goes o.0 o.1 (all.each o.0 o.1));
}

pub standing_ticked : (old moment : ℕ) (sent : List Sent) → AreStanding old sent → AreStanding moment (map (failed_if_spent moment) sent)
standing_ticked old moment sent =
    standing_mapped old moment sent (failed_if_spent moment) (λ s. same s (is_spent moment s)) (λ s h. ticked_stands old moment s)
  where
    same : (s : Sent) (b : Bool) → (if b then marked mark.Failed s else s).submission ≡ s.submission
    same s true = refl
    same s false = refl

-- the one of a number changed
standing_changed : (moment number : ℕ) (change : Sent → Sent) (sent : List Sent) → ((s : Sent) → (change s).submission ≡ s.submission)
    → ((s : Sent) → Has sent s → s.submission.number ≡ number → IsStanding moment s → IsStanding moment (change s))
    → AreStanding moment sent → AreStanding moment (changed number change sent)
unfolding changed
standing_changed moment number change sent same goes =
    standing_mapped moment moment sent (λ s. if s.submission.number == number then change s else s)
    (λ s. same_by s (s.submission.number == number)) (λ s h. goes_by s h (s.submission.number == number) refl)
  where
    same_by : (s : Sent) (b : Bool) → (if b then change s else s).submission ≡ s.submission
    same_by s true = same s
    same_by s false = refl

    goes_by : (s : Sent) → Has sent s → (b : Bool) → (s.submission.number == number) ≡ b → IsStanding moment s
        → IsStanding moment (if b then change s else s)
    goes_by s h true e stands = goes s h (eqb-true s.submission.number number e) stands
    goes_by s h false e stands = stands

pub standing_settled : (moment number : ℕ) (m : Mark) (sent : List Sent) → is_pending_mark m ≡ false → is_failed_mark m ≡ false
    → AreStanding moment sent → AreStanding moment (changed number (marked m) sent)
standing_settled moment number m sent settled unfailed =
    standing_changed moment number (marked m) sent (λ s. refl) (λ s h e. settled_stands moment m s settled unfailed)

is_one_some : (test : Sent → Bool) (o : Option Sent) → is_one test o ≡ true → (s : Sent) × (o ≡ Some s) × (test s ≡ true)
is_one_some test None e = absurd cc
is_one_some test (Some s) e = (s, refl, e)

-- the submission of this number waits
pub standing_tried : (moment number : ℕ) (sent : List Sent) → moment ≤ 253402300799999 → is_one is_waiting (sent_at number sent) ≡ true
    → AreStanding moment sent → AreStanding moment (changed number (tried moment) sent)
standing_tried moment number sent dated fits all =
    let one = is_one_some is_waiting (sent_at number sent) fits in
    let found = sent_at_has number sent one.0 one.1 in
    standing_changed moment number (tried moment) sent (λ s. refl)
    (λ s h e. tried_stands moment s dated
    (subst (λ (t : Sent). is_waiting t ≡ true) (one_of_number sent one.0 s all.numbered found.0 h (found.1 ∙ sym e)) one.2))
    all
