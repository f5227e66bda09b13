-- The time of a try is the clock's moment.
use Rattle.std.proofs.Common.{◌≡◌, ℕ, inl, inr, List, [], ◌∷◌, Bool, true, false, Some, map, refl, sym, ap, ◌∙◌, subst, arith}
use Rattle.std.specs.Prelude.{◌==◌, slice_get, if◌then◌else◌}
use Rattle.mode_values.specs.declared.mode.Mode.{Mode}
use Rattle.as4_effects.specs.declared.effect.Effect.{Effect}
use Rattle.as4_effects.specs.declared.effect.Effect.TheVariants as effect
use Rattle.as4_effects.specs.declared.mark.Mark.{Mark}
use Rattle.as4_effects.specs.declared.mark.Mark.TheVariants as mark
use Rattle.as4_effects.specs.declared.submission.Submission.{Submission}
use Rattle.exchange_model.specs.Apply.{after, after_all, applied, changed, failed_if_spent, marked, tried, unsent}
use Rattle.exchange_model.specs.End.{End}
use Rattle.exchange_model.specs.Questions.{is_spent}
use Rattle.exchange_model.specs.Table.{Step}
use Rattle.exchange_model.specs.declared.event.Event.{Event}
use Rattle.exchange_model.specs.declared.outcome.Outcome.{Outcome}
use Rattle.exchange_model.specs.declared.reply.Reply.{Reply}
use Rattle.exchange_model.specs.declared.sent.Sent.{Sent}
use Rattle.exchange_model.proofs.ListLemmas.{Has}
use Rattle.exchange_laws.proofs.EffectLemmas.{longer}
use Rattle.exchange_laws.proofs.ListLemmas.{got_left, got_mapped, has_contained}
use Rattle.exchange_laws.proofs.OutcomeKinds.{ArePlain, IsPlainEffect, Kind, step_kind}
use Rattle.stranger_laws.specs.Timely.{TriedAt, UsesClock}
use Rattle.stranger_laws.proofs.TimelyLemmas.{submitted_now}

-- from one list of submissions to a later one
abbrev TriesTimed : ℕ → List Sent → List Sent → Type 0
TriesTimed moment old new =
    (n : ℕ) (s : Sent) → slice_get old n ≡ Some s → (same : Sent) × (slice_get new n ≡ Some same) × TriedAt moment s same

timed_mapped : (moment : ℕ) (sent : List Sent) (f : Sent → Sent) → ((s : Sent) → TriedAt moment s (f s)) → TriesTimed moment sent (map f sent)
timed_mapped moment sent f each n s at = (f s, got_mapped f sent n s at, each s)

timed_if : (moment : ℕ) (b : Bool) (s t : Sent) → TriedAt moment s t → TriedAt moment s (if b then t else s)
timed_if moment true s t timed = timed
timed_if moment false s t timed = inl (refl, refl)

timed_same : (moment : ℕ) (sent : List Sent) → TriesTimed moment sent sent
timed_same moment sent n s at = (s, at, inl (refl, refl))

timed_then : (moment : ℕ) (a b c : List Sent) → TriesTimed moment a b → TriesTimed moment b c → TriesTimed moment a c
timed_then moment a b c f g n s at =
    let t = f n s at in let u = g n t.0 t.1 in (u.0, u.1, both t.0 u.0 t.2 u.2)
  where
    both : (t u : Sent) → TriedAt moment s t → TriedAt moment t u → TriedAt moment s u
    both t u (inl x) (inl y) = inl (y.0 ∙ x.0, y.1 ∙ x.1)
    both t u (inr x) (inl y) = inr (omega (arith, x.0, y.0), y.1 ∙ x.1)
    both t u (inl x) (inr y) = inr (omega (arith, x.0, y.0), y.1)
    both t u (inr x) (inr y) = inr (omega (arith, x.0, y.0), y.1)

timed_marked : (moment number : ℕ) (m : Mark) (sent : List Sent) → TriesTimed moment sent (changed number (marked m) sent)
unfolding changed
timed_marked moment number m sent =
    timed_mapped moment sent (λ (s : Sent). if s.submission.number == number then marked m s else s) (λ s.
    timed_if moment (s.submission.number == number) s (marked m s) (inl (refl, refl)))

-- an effect that leaves the clock
pub record IsTimedBy (old new : End) : Type 0 where
  pub sent : TriesTimed old.moment old.sent new.sent
  pub clock : new.moment ≡ old.moment

timed_one : (e : Effect) (end : End) → IsPlainEffect e → IsTimedBy end (after e end)
unfolding after changed
timed_one (effect.Submitted submission) end plain = absurd plain
timed_one (effect.Ticked tick) end plain = absurd plain
timed_one (effect.Tried number) end plain = record {
  sent = timed_mapped end.moment end.sent (λ (s : Sent). if s.submission.number == number then tried end.moment s else s) (λ s.
      timed_if end.moment (s.submission.number == number) s (tried end.moment s) (inr (omega arith, refl)));
  clock = refl;
}
timed_one (effect.Delivered delivery) end plain = record { sent = timed_same end.moment end.sent; clock = refl }
timed_one (effect.Receipted number) end plain = record { sent = timed_marked end.moment number mark.Receipted end.sent; clock = refl }
timed_one (effect.Refused number code) end plain = record { sent = timed_marked end.moment number (mark.Refused code) end.sent; clock = refl }
timed_one (effect.Confirmed upto) end plain = absurd plain
timed_one (effect.Carried carried) end plain = absurd plain
timed_one (effect.Kept kept) end plain = absurd plain

timed_all : (effects : List Effect) (end : End) → ArePlain effects → TriesTimed end.moment end.sent (after_all effects end).sent
timed_all [] end plain = timed_same end.moment end.sent
timed_all (e ∷ effects) end plain =
    let one = timed_one e end plain.0 in
    timed_then end.moment end.sent (after e end).sent (after_all effects (after e end)).sent one.sent
    (subst (λ moment. TriesTimed moment (after e end).sent (after_all effects (after e end)).sent) one.clock (timed_all effects (after e end) plain.1))

timed_applied : (effects : List Effect) (end : End) → TriesTimed end.moment end.sent (after_all effects end).sent
    → TriesTimed end.moment end.sent (applied effects end).sent
timed_applied effects end timed = subst (TriesTimed end.moment end.sent) (sym (longer effects end).sent) timed

-- plain effects submit nothing
not_plain : (effects : List Effect) (s : Submission) → ArePlain effects → Has effects (effect.Submitted s) → ⊥
not_plain [] s plain h = h
not_plain (e ∷ effects) s plain (inl same) = subst IsPlainEffect same plain.0
not_plain (e ∷ effects) s plain (inr h) = not_plain effects s plain.1 h

pub uses_clock : (modes : List Mode) (end : End) (event : Event) (outcome : Outcome) → Step modes end event outcome
    → UsesClock end (applied outcome.effects end) outcome.effects
unfolding after
uses_clock modes end event outcome step = record {
  tried = tried_by (step_kind modes end event outcome step);
  submitted = λ s there. submitted_by (step_kind modes end event outcome step) s (has_contained outcome.effects (effect.Submitted s) there);
}
  where
    timed_by : (e : Effect) {r : Reply} → outcome ≡ record { effects = e ∷ []; reply = r } → TriesTimed end.moment end.sent (after e end).sent
        → TriesTimed end.moment end.sent (applied outcome.effects end).sent
    timed_by e is timed =
        subst (λ (o : Outcome). TriesTimed end.moment end.sent (applied o.effects end).sent) (sym is) (timed_applied (e ∷ []) end timed)

    tried_by : Kind modes end event event.what outcome → TriesTimed end.moment end.sent (applied outcome.effects end).sent
    tried_by (inl plain) = timed_applied outcome.effects end (timed_all outcome.effects end plain.effects)
    tried_by (inr (inl submits)) =
        timed_by _ submits.is (λ n s at. (s, got_left end.sent (unsent submits.submission ∷ []) n s at, inl (refl, refl)))
    tried_by (inr (inr (inl sets))) =
        timed_by _ sets.is (timed_mapped end.moment end.sent (failed_if_spent sets.tick.moment) (λ s.
        timed_if end.moment (is_spent sets.tick.moment s) s (marked mark.Failed s) (inl (refl, refl))))
    tried_by (inr (inr (inr confirms))) = timed_by _ confirms.is (timed_same end.moment end.sent)

    only : (e : Effect) (s : Submission) → Has (e ∷ []) (effect.Submitted s) → e ≡ effect.Submitted s
    only e s (inl same) = same
    only e s (inr none) = absurd none

    only_one : (e : Effect) {r : Reply} (s : Submission) → outcome ≡ record { effects = e ∷ []; reply = r } → Has outcome.effects (effect.Submitted s)
        → e ≡ effect.Submitted s
    only_one e s is h = only e s (subst (λ (o : Outcome). Has o.effects (effect.Submitted s)) is h)

    submitted_by : Kind modes end event event.what outcome → (s : Submission) → Has outcome.effects (effect.Submitted s) → s.moment ≡ end.moment
    submitted_by (inl plain) s h = absurd (not_plain outcome.effects s plain.effects h)
    submitted_by (inr (inl submits)) s h =
        let same = only_one (effect.Submitted submits.submission) s submits.is h in
        let one : submits.submission ≡ s = cc in
        ap (λ (x : Submission). x.moment) (sym one) ∙ submitted_now modes end event outcome step submits
    submitted_by (inr (inr (inl sets))) s h = absurd (let same = only_one (effect.Ticked sets.tick) s sets.is h in cc)
    submitted_by (inr (inr (inr confirms))) s h = absurd (let same = only_one (effect.Confirmed confirms.upto) s confirms.is h in cc)
