-- A receipted submission was receipted before, or an effect made it so. A pair has such an effect only where a mode
-- names its channel.
use Rattle.std.proofs.Common.{◌≡◌, ℕ, ◌⊎◌, inl, inr, List, [], ◌∷◌, ◌++◌, Bool, true, false, Option, Some, None, map, refl, sym, ap, ◌∙◌, subst}
use Rattle.std.specs.Prelude.{IsSome, IsTrue, is_some, ◌==◌, if◌then◌else◌}
use Rattle.as4_effects.specs.declared.effect.Effect.{Effect}
use Rattle.as4_effects.specs.declared.effect.Effect.TheVariants as effect
use Rattle.as4_effects.specs.declared.submission.Submission.{Submission}
use Rattle.mode_values.specs.ModeMatch.{channel_mode}
use Rattle.as4_values.specs.declared.message.Message.{Message}
use Rattle.as4_values.specs.declared.message.Message.TheVariants as message
use Rattle.as4_values.specs.declared.message.Pair.{Pair}
use Rattle.mode_values.specs.declared.mode.Mode.{Mode}
use Rattle.as4_values.specs.declared.signal_body.SignalBody.{SignalBody}
use Rattle.as4_values.specs.declared.signal_body.SignalBody.TheVariants as body
use Rattle.exchange_model.specs.Apply.{unsent, tried, marked, failed_if_spent, changed, after, after_all, applied}
use Rattle.exchange_model.specs.End.{End}
use Rattle.exchange_model.specs.Questions.{is_spent}
use Rattle.exchange_model.specs.Table.{PairComes, RowOf, Step, has_room, names_channel}
use Rattle.exchange_model.specs.declared.event.Event.{Event}
use Rattle.exchange_model.specs.declared.outcome.Outcome.{Outcome}
use Rattle.as4_effects.specs.declared.mark.Mark.{Mark}
use Rattle.as4_effects.specs.declared.mark.Mark.TheVariants as mark
use Rattle.exchange_model.specs.declared.sent.Sent.{Sent}
use Rattle.exchange_model.specs.declared.what.What.{What}
use Rattle.exchange_model.specs.declared.what.What.TheVariants.{Came}
use Rattle.exchange_model.proofs.ListLemmas.{Has}
use Rattle.exchange_laws.proofs.EffectLemmas.{longer}
use Rattle.exchange_laws.proofs.EndSteps.{by_bool}
use Rattle.exchange_laws.proofs.ListLemmas.{has_mapped, has_either}
use Rattle.exchange_laws.proofs.OutcomeKinds.{IsMade, AreMade}
use Rattle.exchange_laws.proofs.PairRows.{pair_cases}
use Rattle.exchange_laws.proofs.SentChanges.{same_number}

-- the submission was receipted before
pub record StoodReceipted (sent : List Sent) (t : Sent) : Type 0 where
  pub one : Sent
  pub there : Has sent one
  pub mark : one.mark ≡ mark.Receipted
  pub same : one.submission ≡ t.submission

itself : (sent : List Sent) (t : Sent) → Has sent t → t.mark ≡ mark.Receipted → StoodReceipted sent t
itself sent t h m = record { one = t; there = h; mark = m; same = refl }

-- one that is unchanged, or was changed into this
mapped : (sent : List Sent) (change : Sent → Sent) (test : Sent → Bool) (t : Sent)
    → Has (map (λ (s : Sent). if test s then change s else s) sent) t
    → (s : Sent) × Has sent s × (((test s ≡ true) × (change s ≡ t)) ⊎ (s ≡ t))
mapped sent change test t h =
    let o = has_mapped (λ (s : Sent). if test s then change s else s) sent t h in (o.0, o.1, by_test o.0 (test o.0) refl o.2)
  where
    by_test : (s : Sent) (b : Bool) → test s ≡ b → (if b then change s else s) ≡ t → ((test s ≡ true) × (change s ≡ t)) ⊎ (s ≡ t)
    by_test s true e same = inl (e, same)
    by_test s false e same = inr same

-- a change that leaves the mark
kept_mark : (sent : List Sent) (change : Sent → Sent) (test : Sent → Bool) (t : Sent) → ((s : Sent) → (change s).mark ≡ s.mark)
    → ((s : Sent) → (change s).submission ≡ s.submission)
    → Has (map (λ (s : Sent). if test s then change s else s) sent) t → t.mark ≡ mark.Receipted → StoodReceipted sent t
kept_mark sent change test t marks same h m =
    let o = mapped sent change test t h in by_change o.0 o.1 o.2
  where
    by_change : (s : Sent) → Has sent s → ((test s ≡ true) × (change s ≡ t)) ⊎ (s ≡ t) → StoodReceipted sent t
    by_change s there (inl c) = record {
      one = s;
      there = there;
      mark = sym (marks s) ∙ ap (λ (u : Sent). u.mark) c.1 ∙ m;
      same = sym (same s) ∙ ap (λ (u : Sent). u.submission) c.1;
    }
    by_change s there (inr e) = itself sent t (subst (Has sent) e there) m

-- a change that gives another mark
other_mark : (sent : List Sent) (change : Sent → Sent) (test : Sent → Bool) (t : Sent) → ((s : Sent) → (change s).mark ≡ mark.Receipted → ⊥)
    → Has (map (λ (s : Sent). if test s then change s else s) sent) t → t.mark ≡ mark.Receipted → StoodReceipted sent t
other_mark sent change test t other h m =
    let o = mapped sent change test t h in by_change o.0 o.1 o.2
  where
    by_change : (s : Sent) → Has sent s → ((test s ≡ true) × (change s ≡ t)) ⊎ (s ≡ t) → StoodReceipted sent t
    by_change s there (inl c) = absurd (other s (ap (λ (u : Sent). u.mark) c.1 ∙ m))
    by_change s there (inr e) = itself sent t (subst (Has sent) e there) m

-- after one effect
receipted_one : (e : Effect) (end : End) (t : Sent) → IsMade e → Has (after e end).sent t → t.mark ≡ mark.Receipted
    → StoodReceipted end.sent t ⊎ (e ≡ effect.Receipted t.submission.number)
unfolding after changed
receipted_one (effect.Submitted submission) end t made h m = elim (has_either end.sent (unsent submission ∷ []) t h) [
  | inl old ↦ inl (itself end.sent t old m)
  | inr new ↦ absurd (fresh new)
]
  where
    fresh : Has (unsent submission ∷ []) t → ⊥
    fresh (inl e) = let no_one : mark.Pending ≡ mark.Receipted = ap (λ (u : Sent). u.mark) e ∙ m in cc
    fresh (inr none) = none
receipted_one (effect.Ticked tick) end t made h m =
    inl (other_mark end.sent (marked mark.Failed) (is_spent tick.moment) t (λ s e. cc) h m)
receipted_one (effect.Tried number) end t made h m =
    inl (kept_mark end.sent (tried end.moment) (λ (s : Sent). s.submission.number == number) t (λ s. refl) (λ s. refl) h m)
receipted_one (effect.Delivered delivery) end t made h m = inl (itself end.sent t h m)
receipted_one (effect.Receipted number) end t made h m =
    let o = mapped end.sent (marked mark.Receipted) (λ (s : Sent). s.submission.number == number) t h in by_change o.0 o.1 o.2
  where
    by_change : (s : Sent) → Has end.sent s
        → (((s.submission.number == number) ≡ true) × (marked mark.Receipted s ≡ t)) ⊎ (s ≡ t)
        → StoodReceipted end.sent t ⊎ (effect.Receipted number ≡ effect.Receipted t.submission.number)
    by_change s there (inl c) =
        inr (ap effect.Receipted (sym (same_number s.submission.number number c.0) ∙ ap (λ (u : Sent). u.submission.number) c.1))
    by_change s there (inr e) = inl (itself end.sent t (subst (Has end.sent) e there) m)
receipted_one (effect.Refused number code) end t made h m =
    inl (other_mark end.sent (marked (mark.Refused code)) (λ (s : Sent). s.submission.number == number) t (λ s e. cc) h m)
receipted_one (effect.Confirmed upto) end t made h m = inl (itself end.sent t h m)
receipted_one (effect.Carried carried) end t made h m = absurd made
receipted_one (effect.Kept kept) end t made h m = absurd made

-- after all of them
receipted_all : (effects : List Effect) (end : End) (t : Sent) → AreMade effects → Has (after_all effects end).sent t → t.mark ≡ mark.Receipted
    → StoodReceipted end.sent t ⊎ Has effects (effect.Receipted t.submission.number)
receipted_all [] end t made h m = inl (itself end.sent t h m)
receipted_all (e ∷ effects) end t made h m = elim (receipted_all effects (after e end) t made.1 h m) [
  | inl stood ↦ first stood
  | inr later ↦ inr (inr later)
]
  where
    first : StoodReceipted (after e end).sent t → StoodReceipted end.sent t ⊎ Has (e ∷ effects) (effect.Receipted t.submission.number)
    first stood = elim (receipted_one e end stood.one made.0 stood.there stood.mark) [
      | inl s ↦ inl (record { one = s.one; there = s.there; mark = s.mark; same = s.same ∙ stood.same })
      | inr is ↦ inr (inl (is ∙ ap (λ (u : Submission). effect.Receipted u.number) stood.same))
    ]

pub receipted_applied : (effects : List Effect) (end : End) (t : Sent) → AreMade effects → Has (applied effects end).sent t → t.mark ≡ mark.Receipted
    → StoodReceipted end.sent t ⊎ Has effects (effect.Receipted t.submission.number)
receipted_applied effects end t made h m =
    receipted_all effects end t made (subst (λ (sent : List Sent). Has sent t) (longer effects end).sent h) m

-- a pair changes something only for a channel of these modes
pair_named : (modes : List Mode) (end : End) (event : Event) (pair : Pair) (row : Outcome) (e : Effect)
    → PairComes modes end event pair.receipt pair.pull row → Has row.effects e → IsTrue (names_channel modes pair.pull.body)
pair_named modes end event pair row e h there = elim (pair_cases modes end event pair row h) [
  | inl r ↦ absurd (subst (λ (o : Outcome). Has o.effects e) r.errs.2 there)
  | inr s ↦ subst (λ (b : SignalBody). IsTrue (names_channel modes b)) (sym s.asks) (some_named (channel_mode modes s.mpc) s.named)
]
  where
    some_named : (o : Option Mode) → IsSome o → is_some o ≡ true
    some_named None some = absurd cc
    some_named (Some mode) some = refl

-- a step with effects, if its event is a pair, is for a channel of the modes
pub step_named : (modes : List Mode) (end : End) (event : Event) (outcome : Outcome) (e : Effect) → Step modes end event outcome
    → Has outcome.effects e → (pair : Pair) → event.what ≡ Came (message.Pair pair) → IsTrue (names_channel modes pair.pull.body)
step_named modes end event outcome e step there pair came =
    by_bool _ _ _ (has_room end step.row.effects) step.limited
    (λ _ same. pair_named modes end event pair step.row e (subst (λ (w : What). RowOf modes end event w step.row) came step.decided)
    (subst (λ (o : Outcome). Has o.effects e) same there))
    (λ _ full. absurd (subst (λ (o : Outcome). Has o.effects e) full there))
