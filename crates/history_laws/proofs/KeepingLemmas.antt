-- What steps keep from any end on.
use Rattle.std.proofs.Common.{◌≡◌, ℕ, ◌+◌, ◌≤◌, inl, inr, Bool, true, false, List, [], ◌∷◌, ◌++◌, map, refl, sym, ap, ◌∙◌, subst, arith}
use Rattle.std.specs.Prelude.{◌==◌, if◌then◌else◌, nat_lt, slice_get}
use Rattle.std.proofs.lemmas.Bool.Decides.{nat_tests}
use Rattle.as4_effects.specs.declared.effect.Effect.{Effect}
use Rattle.as4_effects.specs.declared.effect.Effect.TheVariants as effect
use Rattle.as4_effects.specs.declared.mark.Mark.TheVariants as mark
use Rattle.mode_values.specs.declared.mode.Mode.{Mode}
use Rattle.exchange_model.specs.Alone.{MayHappenTo, end_after}
use Rattle.exchange_model.specs.Apply.{after, after_all, applied, as_carried, changed, failed_if_spent, marked, tried, unsent}
use Rattle.exchange_model.specs.End.{End}
use Rattle.exchange_model.specs.Fold.{resized}
use Rattle.exchange_model.specs.Questions.{is_spent}
use Rattle.exchange_model.specs.Staying.{Keeps}
use Rattle.exchange_model.specs.Table.{Confirms, RowOf, Step, has_room}
use Rattle.exchange_model.specs.World.{Happening, Does, Folds}
use Rattle.exchange_model.specs.declared.event.Event.{Event}
use Rattle.exchange_model.specs.declared.inbox_entry.InboxEntry.{InboxEntry}
use Rattle.exchange_model.specs.declared.outcome.Outcome.{Outcome}
use Rattle.exchange_model.specs.declared.reply.Reply.{Reply}
use Rattle.exchange_model.specs.declared.sent.Sent.{Sent}
use Rattle.exchange_model.specs.declared.what.What.{What}
use Rattle.exchange_model.specs.declared.what.What.TheVariants as what
use Rattle.exchange_laws.proofs.EndSteps.{by_bool}
use Rattle.exchange_laws.proofs.InboxSteps.{inbox_emptied}
use Rattle.exchange_laws.proofs.ListLemmas.{got_left, got_mapped}
use Rattle.exchange_laws.proofs.OutcomeKinds.{ArePlain, IsPlainEffect, Kind, step_kind}
use Rattle.office.specs.Calls.{LeadsWhere}
use Rattle.office.specs.Observed.{StepWhere}
use Rattle.office.specs.declared.call.Call.{Call}
use Rattle.office.specs.declared.call.Call.TheVariants.{Done, Folded, Stop}

pub keeps_same : (end : End) → Keeps end end
keeps_same end = record {
  entries = λ n entry at. (entry, at, refl, λ k. refl);
  confirmed = omega arith;
  submissions = λ n s at. (s, at, refl, omega arith);
}

pub keeps_then : (a b c : End) → Keeps a b → Keeps b c → Keeps a c
keeps_then a b c f g = record {
  entries = λ n entry at. let d = f.entries n entry at in let e = g.entries n d.0 d.1 in
      (e.0, e.1, e.2 ∙ d.2, λ k. e.3 k ∙ d.3 (let less : b.confirmed ≤ c.confirmed = g.confirmed in omega arith));
  confirmed = let less : a.confirmed ≤ b.confirmed = f.confirmed in let more : b.confirmed ≤ c.confirmed = g.confirmed in omega arith;
  submissions = λ n s at. let t = f.submissions n s at in let u = g.submissions n t.0 t.1 in
      (u.0, u.1, u.2 ∙ t.2, omega (arith, t.3, u.3));
}

-- ---- one effect

-- the same submission, tried as often or more
abbrev IsLater : Sent → Sent → Type 0
IsLater s later = (later.submission ≡ s.submission) × (s.tries ≤ later.tries)

by_test : (s : Sent) (change : Sent → Sent) → IsLater s (change s) → (b : Bool) → IsLater s (if b then change s else s)
by_test s change later true = later
by_test s change later false = (refl, omega arith)

-- each submission is changed
maps_sent : (f : Sent → Sent) (end new : End) → ((s : Sent) → IsLater s (f s)) → new.sent ≡ map f end.sent → new.inbox ≡ end.inbox
    → new.confirmed ≡ end.confirmed → Keeps end new
maps_sent f end new later sent inbox confirmed = record {
  entries = λ n entry at. (entry, ap (λ (entries : List InboxEntry). slice_get entries n) inbox ∙ at, refl, λ k. refl);
  confirmed = omega (arith, confirmed);
  submissions = λ n s at.
      (f s, ap (λ (all : List Sent). slice_get all n) sent ∙ got_mapped f end.sent n s at, (later s).0, (later s).1);
}

-- the submission of a number is changed
changes_one : (number : ℕ) (change : Sent → Sent) (end : End) → ((s : Sent) → IsLater s (change s))
    → Keeps end (record end { sent = changed number change end.sent })
unfolding changed
changes_one number change end later =
    maps_sent (λ (s : Sent). if s.submission.number == number then change s else s) end
    (record end { sent = changed number change end.sent })
    (λ s. by_test s change (later s) (s.submission.number == number)) refl refl refl

-- a submission is added
adds_sent : (s : Sent) (end : End) → Keeps end (record end { sent = end.sent ++ s ∷ [] })
adds_sent s end = record {
  entries = λ n entry at. (entry, at, refl, λ k. refl);
  confirmed = omega arith;
  submissions = λ n t at. (t, got_left end.sent (s ∷ []) n t at, refl, omega arith);
}

-- a confirmation confirms no less than before
abbrev IsRising : End → Effect → Type 0
IsRising end (effect.Confirmed upto) = end.confirmed ≤ upto + 1
IsRising end other = Unit {0}

keeps_effect : (e : Effect) (end : End) → IsRising end e → Keeps end (after e end)
unfolding after
keeps_effect (effect.Submitted submission) end rising = adds_sent (unsent submission) end
keeps_effect (effect.Ticked tick) end rising =
    maps_sent (failed_if_spent tick.moment) end (after (effect.Ticked tick) end)
    (λ s. by_test s (marked mark.Failed) (refl, omega arith) (is_spent tick.moment s)) refl refl refl
keeps_effect (effect.Tried number) end rising = changes_one number (tried end.moment) end (λ s. (refl, omega arith))
keeps_effect (effect.Delivered delivery) end rising = record {
  entries = λ n entry at. (entry, got_left end.inbox _ n entry at, refl, λ k. refl);
  confirmed = omega arith;
  submissions = λ n s at. (s, at, refl, omega arith);
}
keeps_effect (effect.Receipted number) end rising = changes_one number (marked mark.Receipted) end (λ s. (refl, omega arith))
keeps_effect (effect.Refused number code) end rising = changes_one number (marked (mark.Refused code)) end (λ s. (refl, omega arith))
keeps_effect (effect.Confirmed upto) end rising = record {
  entries = λ n entry at.
      let stays = (inbox_emptied what.Tick end.inbox end.confirmed (upto + 1) rising).stays n entry at in
      (stays.later, stays.there, stays.header, stays.payloads);
  confirmed = rising;
  submissions = λ n s at. (s, at, refl, omega arith);
}
keeps_effect (effect.Carried carried) end rising = adds_sent (as_carried carried) end
keeps_effect (effect.Kept kept) end rising = record {
  entries = λ n entry at. (entry, got_left end.inbox _ n entry at, refl, λ k. refl);
  confirmed = omega arith;
  submissions = λ n s at. (s, at, refl, omega arith);
}

-- ---- one step

plain_rises : (e : Effect) (end : End) → IsPlainEffect e → IsRising end e
plain_rises (effect.Confirmed upto) end plain = absurd plain
plain_rises other end plain = tt

keeps_plain : (effects : List Effect) (end : End) → ArePlain effects → Keeps end (after_all effects end)
keeps_plain [] end plain = keeps_same end
keeps_plain (e ∷ effects) end plain =
    keeps_then end (after e end) (after_all effects (after e end)) (keeps_effect e end (plain_rises e end plain.0))
    (keeps_plain effects (after e end) plain.1)

keeps_applied : (effects : List Effect) (end : End) → Keeps end (after_all effects end) → Keeps end (applied effects end)
unfolding applied
keeps_applied [] end keeps = keeps
keeps_applied (e ∷ effects) end keeps =
    record { entries = keeps.entries; confirmed = keeps.confirmed; submissions = keeps.submissions }

keeps_by : (effects : List Effect) (r : Reply) (outcome : Outcome) (end : End) → outcome ≡ record { effects = effects; reply = r }
    → Keeps end (after_all effects end) → Keeps end (applied outcome.effects end)
keeps_by effects r outcome end is keeps =
    subst (λ (o : Outcome). Keeps end (applied o.effects end)) (sym is) (keeps_applied effects end keeps)

not_past : (n m : ℕ) → nat_lt n m ≡ false → m ≤ n + 1
not_past n m e = grind (arith, nat_tests)

-- a confirmation confirms what wasn't confirmed
confirms_more : (modes : List Mode) (end : End) (event : Event) (outcome : Outcome) (upto : ℕ) (r : Reply) → Step modes end event outcome
    → event.what ≡ what.Confirm upto → outcome ≡ record { effects = effect.Confirmed upto ∷ []; reply = r } → end.confirmed ≤ upto + 1
unfolding Confirms
confirms_more modes end event outcome upto r step asked is =
    by_bool _ _ _ (has_room end step.row.effects) step.limited (λ _ same. of_row same) (λ _ full. absurd (none (ap (λ (o : Outcome). o.effects) full)))
  where
    none : outcome.effects ≡ [] → ⊥
    none empty = let both : effect.Confirmed upto ∷ [] ≡ [] = sym (ap (λ (o : Outcome). o.effects) is) ∙ empty in cc

    of_row : outcome ≡ step.row → end.confirmed ≤ upto + 1
    of_row same =
        let row : Confirms end upto step.row = subst (λ (w : What). RowOf modes end event w step.row) asked step.decided in
        by_bool _ _ _ (nat_lt upto end.confirmed) row
        (λ _ gone. absurd (none (ap (λ (o : Outcome). o.effects) (same ∙ gone)))) (λ more _. not_past upto end.confirmed more)

pub step_keeps : (modes : List Mode) (end : End) (event : Event) (outcome : Outcome) → Step modes end event outcome
    → Keeps end (applied outcome.effects end)
step_keeps modes end event outcome step = by_kind (step_kind modes end event outcome step)
  where
    by_kind : Kind modes end event event.what outcome → Keeps end (applied outcome.effects end)
    by_kind (inl plain) = keeps_applied outcome.effects end (keeps_plain outcome.effects end plain.effects)
    by_kind (inr (inl submits)) = keeps_by _ _ outcome end submits.is (keeps_effect (effect.Submitted submits.submission) end tt)
    by_kind (inr (inr (inl sets))) = keeps_by _ _ outcome end sets.is (keeps_effect (effect.Ticked sets.tick) end tt)
    by_kind (inr (inr (inr confirms))) =
        keeps_by _ _ outcome end confirms.is
        (keeps_effect (effect.Confirmed confirms.upto) end (confirms_more modes end event outcome confirms.upto _ step confirms.asked confirms.is))

pub same_without : (effects : List Effect) (end : End) → effects ≡ [] → applied effects end ≡ end
unfolding applied
same_without effects end none = ap (λ (es : List Effect). applied es end) none

step_where_keeps : (observable : Bool) (modes : List Mode) (end : End) (event : Event) (outcome : Outcome)
    → StepWhere observable modes end event outcome → Keeps end (applied outcome.effects end)
step_where_keeps true modes end event outcome step = step_keeps modes end event outcome step
step_where_keeps false modes end event outcome (inl step) = step_keeps modes end event outcome step
step_where_keeps false modes end event outcome (inr read) =
    subst (Keeps end) (sym (same_without outcome.effects end read.rests)) (keeps_same end)

-- ---- many

resized_keeps : (size : ℕ) (start end : End) → Keeps (resized size start) end → Keeps start end
resized_keeps size start end keeps = record { entries = keeps.entries; confirmed = keeps.confirmed; submissions = keeps.submissions }

pub keeps_calls : (observable : Bool) (modes : List Mode) (calls : List Call) (start end : End) → LeadsWhere observable modes start calls end
    → Keeps start end
keeps_calls observable modes [] start end here = subst (Keeps start) here (keeps_same start)
keeps_calls observable modes (Done event r ∷ calls) start end (outcome, step, is, rest) =
    keeps_then start (applied outcome.effects start) end (step_where_keeps observable modes start event outcome step)
    (keeps_calls observable modes calls (applied outcome.effects start) end rest)
keeps_calls observable modes (Folded size ∷ calls) start end (folded, shorter, rest) =
    resized_keeps size start end (keeps_calls observable modes calls (resized size start) end rest)
keeps_calls observable modes (Stop event halt ∷ calls) start end (rose, all, here) = subst (Keeps start) here (keeps_same start)

pub keeps_happened : (all : List Happening) (end : End) → MayHappenTo all end → Keeps end (end_after all end)
keeps_happened [] end may = keeps_same end
keeps_happened (Does act ∷ later) end may =
    let new : End = applied act.outcome.effects end in
    keeps_then end new (end_after later new) (step_keeps act.modes end act.event act.outcome may.0) (keeps_happened later new may.1)
keeps_happened (Folds site size ∷ later) end may =
    resized_keeps size end (end_after later (resized size end)) (keeps_happened later (resized size end) may.1)
