-- What effects change at an endpoint, and what they leave.
use Rattle.std.proofs.Common.{◌≡◌, ℕ, ◌+◌, ◌≤◌, ◌⊎◌, inl, inr, List, [], ◌∷◌, ◌++◌, Bool, true, false, length, map, refl, sym, ap, ◌∙◌, subst, arith}
use Rattle.std.specs.Prelude.{◌==◌, ◌&&◌, nat_le, if◌then◌else◌}
use Rattle.std.proofs.lemmas.Bool.{cases_Bool}
use Rattle.std.proofs.lemmas.Bool.Decides.{nat_tests}
use Rattle.std.proofs.lemmas.List.{length-map}
use Rattle.as4_effects.specs.declared.effect.Effect.{Effect}
use Rattle.as4_effects.specs.declared.effect.Effect.TheVariants as effect
use Rattle.as4_effects.specs.declared.effect.Tick.{Tick}
use Rattle.as4_effects.specs.declared.submission.Submission.{Submission}
use Rattle.exchange_model.specs.Alone.{written}
use Rattle.exchange_model.specs.Apply.{unsent, tried, marked, failed_if_spent, changed, after, after_all, applied}
use Rattle.exchange_model.specs.End.{End}
use Rattle.exchange_model.specs.Questions.{is_pending, is_spent}
use Rattle.as4_effects.specs.declared.mark.Mark.{Mark}
use Rattle.as4_effects.specs.declared.mark.Mark.TheVariants as mark
use Rattle.exchange_model.specs.declared.sent.Sent.{Sent}
use Rattle.exchange_model.proofs.ListLemmas.{Has}
use Rattle.exchange_laws.proofs.ListLemmas.{has_mapped, has_either}
use Rattle.exchange_laws.proofs.OutcomeKinds.{IsPlainEffect, ArePlain, IsMade, AreMade}

-- the record of the effects makes the journal longer, and changes nothing else
pub record IsLonger (new end : End) (bytes : ℕ) : Type 0 where
  pub sent : new.sent ≡ end.sent
  pub inbox : new.inbox ≡ end.inbox
  pub confirmed : new.confirmed ≡ end.confirmed
  pub moment : new.moment ≡ end.moment
  pub size : new.size ≡ end.size + bytes

pub longer : (effects : List Effect) (end : End) → IsLonger (applied effects end) (after_all effects end) (written effects)
unfolding applied
longer [] end = record { sent = refl; inbox = refl; confirmed = refl; moment = refl; size = omega arith }
longer (e ∷ effects) end = record { sent = refl; inbox = refl; confirmed = refl; moment = refl; size = refl }

size_one : (e : Effect) (end : End) → (after e end).size ≡ end.size
unfolding after
size_one (effect.Submitted submission) end = refl
size_one (effect.Ticked tick) end = refl
size_one (effect.Tried number) end = refl
size_one (effect.Delivered delivery) end = refl
size_one (effect.Receipted number) end = refl
size_one (effect.Refused number code) end = refl
size_one (effect.Confirmed upto) end = refl
size_one (effect.Carried carried) end = refl
size_one (effect.Kept kept) end = refl

size_all : (effects : List Effect) (end : End) → (after_all effects end).size ≡ end.size
size_all [] end = refl
size_all (e ∷ effects) end = size_all effects (after e end) ∙ size_one e end

-- the journal grows by the record
pub size_applied : (effects : List Effect) (end : End) → (applied effects end).size ≡ end.size + written effects
size_applied effects end = (longer effects end).size ∙ ap (λ n. n + written effects) (size_all effects end)

-- plain effects add no submission, confirm nothing and leave the clock
pub record StaysPlain (end new : End) : Type 0 where
  pub count : length new.sent ≡ length end.sent
  pub confirmed : new.confirmed ≡ end.confirmed
  pub moment : new.moment ≡ end.moment

plain_one : (e : Effect) (end : End) → IsPlainEffect e → StaysPlain end (after e end)
unfolding after changed
plain_one (effect.Submitted submission) end plain = absurd plain
plain_one (effect.Ticked tick) end plain = absurd plain
plain_one (effect.Tried number) end plain = record { count = length-map end.sent _; confirmed = refl; moment = refl }
plain_one (effect.Delivered delivery) end plain = record { count = refl; confirmed = refl; moment = refl }
plain_one (effect.Receipted number) end plain = record { count = length-map end.sent _; confirmed = refl; moment = refl }
plain_one (effect.Refused number code) end plain = record { count = length-map end.sent _; confirmed = refl; moment = refl }
plain_one (effect.Confirmed upto) end plain = absurd plain
plain_one (effect.Carried carried) end plain = absurd plain
plain_one (effect.Kept kept) end plain = absurd plain

plain_all : (effects : List Effect) (end : End) → ArePlain effects → StaysPlain end (after_all effects end)
plain_all [] end plain = record { count = refl; confirmed = refl; moment = refl }
plain_all (e ∷ effects) end plain =
    let first = plain_one e end plain.0 in
    let rest = plain_all effects (after e end) plain.1 in
    record { count = rest.count ∙ first.count; confirmed = rest.confirmed ∙ first.confirmed; moment = rest.moment ∙ first.moment }

pub plain_applied : (effects : List Effect) (end : End) → ArePlain effects → StaysPlain end (applied effects end)
plain_applied effects end plain =
    let made = plain_all effects end plain in
    let more = longer effects end in
    record { count = ap length more.sent ∙ made.count; confirmed = more.confirmed ∙ made.confirmed; moment = more.moment ∙ made.moment }

-- no submission is past its last try and overdue
abbrev pub NoneSpent : End → Type 0
NoneSpent end = (s : Sent) → Has end.sent s → is_spent end.moment s ≡ false

-- one that was never sent isn't
unsent_one : (moment : ℕ) (s : Submission) (t : Sent) → Has (unsent s ∷ []) t → is_spent moment t ≡ false
unsent_one moment s t (inl e) = subst (λ (u : Sent). is_spent moment u ≡ false) e (grind (arith, nat_tests))
unsent_one moment s t (inr none) = absurd none

-- one that was just sent isn't
tried_one : (moment : ℕ) (s : Sent) → is_spent moment (tried moment s) ≡ false
tried_one moment s = let timed = s.submission.timed in let long = timed.0 in grind (arith, nat_tests)

-- a settled one isn't
settled_one : (moment : ℕ) (s : Sent) → is_pending s ≡ false → is_spent moment s ≡ false
settled_one moment s e = rw e refl

-- an overdue one expires
failed_one : (moment : ℕ) (s : Sent) → is_spent moment (failed_if_spent moment s) ≡ false
failed_one moment s = by_test (is_spent moment s) refl
  where
    by_test : (b : Bool) → is_spent moment s ≡ b → is_spent moment (if b then marked mark.Failed s else s) ≡ false
    by_test true e = refl
    by_test false e = e

-- each one changed
mapped_none : (moment : ℕ) (sent : List Sent) (f : Sent → Sent) → ((s : Sent) → Has sent s → is_spent moment (f s) ≡ false)
    → (t : Sent) → Has (map f sent) t → is_spent moment t ≡ false
mapped_none moment sent f each t h =
    let o = has_mapped f sent t h in subst (λ (u : Sent). is_spent moment u ≡ false) o.2 (each o.0 o.1)

-- the one of a number changed
changed_none : (moment number : ℕ) (sent : List Sent) (change : Sent → Sent) → ((s : Sent) → Has sent s → is_spent moment s ≡ false)
    → ((s : Sent) → is_spent moment (change s) ≡ false) → (t : Sent) → Has (changed number change sent) t → is_spent moment t ≡ false
unfolding changed
changed_none moment number sent change none each =
    mapped_none moment sent (λ (s : Sent). if s.submission.number == number then change s else s)
    (λ s h. by_test s h (s.submission.number == number))
  where
    by_test : (s : Sent) → Has sent s → (b : Bool) → is_spent moment (if b then change s else s) ≡ false
    by_test s h true = each s
    by_test s h false = none s h

pub none_one : (e : Effect) (end : End) → IsMade e → NoneSpent end → NoneSpent (after e end)
unfolding after
none_one (effect.Submitted submission) end made none = pushed
  where
    pushed : (t : Sent) → Has (end.sent ++ unsent submission ∷ []) t → is_spent end.moment t ≡ false
    pushed t h = elim (has_either end.sent (unsent submission ∷ []) t h) [
      | inl old ↦ none t old
      | inr new ↦ unsent_one end.moment submission t new
    ]
none_one (effect.Ticked tick) end made none = mapped_none tick.moment end.sent (failed_if_spent tick.moment) (λ s h. failed_one tick.moment s)
none_one (effect.Tried number) end made none = changed_none end.moment number end.sent (tried end.moment) none (tried_one end.moment)
none_one (effect.Delivered delivery) end made none = none
none_one (effect.Receipted number) end made none =
    changed_none end.moment number end.sent (marked mark.Receipted) none (λ s. settled_one end.moment (marked mark.Receipted s) refl)
none_one (effect.Refused number code) end made none =
    changed_none end.moment number end.sent (marked (mark.Refused code)) none (λ s. settled_one end.moment (marked (mark.Refused code) s) refl)
none_one (effect.Confirmed upto) end made none = none
none_one (effect.Carried carried) end made none = absurd made
none_one (effect.Kept kept) end made none = absurd made

none_all : (effects : List Effect) (end : End) → AreMade effects → NoneSpent end → NoneSpent (after_all effects end)
none_all [] end made none = none
none_all (e ∷ effects) end made none = none_all effects (after e end) made.1 (none_one e end made.0 none)

-- so none ever is
pub none_applied : (effects : List Effect) (end : End) → AreMade effects → NoneSpent end → NoneSpent (applied effects end)
unfolding applied
none_applied [] end made none = none
none_applied (e ∷ effects) end made none = none_all (e ∷ effects) end made none
