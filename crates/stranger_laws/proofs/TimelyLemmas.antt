-- The clock of an endpoint goes on by ticks alone, and no submission is ahead of it.
use Rattle.std.proofs.Common.{◌≡◌, ℕ, ◌+◌, ◌≤◌, inl, inr, List, [], ◌∷◌, Bool, true, false, map, refl, sym, ap, ◌∙◌, subst, arith}
use Rattle.std.specs.Prelude.{◌==◌, nat_le, if◌then◌else◌}
use Rattle.std.proofs.lemmas.Bool.{and_parts, leb-true}
use Rattle.std.proofs.lemmas.Bool.Decides.{nat_tests}
use Rattle.mode_values.specs.declared.mode.Mode.{Mode}
use Rattle.as4_effects.specs.declared.effect.Effect.{Effect}
use Rattle.as4_effects.specs.declared.effect.Effect.TheVariants as effect
use Rattle.as4_effects.specs.declared.mark.Mark.{Mark}
use Rattle.as4_effects.specs.declared.mark.Mark.TheVariants as mark
use Rattle.as4_effects.specs.declared.submission.Submission.{Submission}
use Rattle.exchange_model.specs.Alone.{MayHappenTo, end_after}
use Rattle.exchange_model.specs.Apply.{after, after_all, applied, changed, failed_if_spent, marked, tried, unsent}
use Rattle.exchange_model.specs.End.{End}
use Rattle.exchange_model.specs.Fold.{resized}
use Rattle.exchange_model.specs.Numbered.{AreNumberedFrom}
use Rattle.exchange_model.specs.Questions.{due, is_pending, is_pending_mark, is_spent}
use Rattle.exchange_model.specs.Submitting.{are_too_large}
use Rattle.exchange_model.specs.Table.{Step, Submits, Ticks}
use Rattle.exchange_model.specs.World.{Happening, Does, Folds}
use Rattle.exchange_model.specs.declared.event.Event.{Event}
use Rattle.exchange_model.specs.declared.outcome.Outcome.{Outcome}
use Rattle.exchange_model.specs.declared.sent.Sent.{Sent}
use Rattle.exchange_model.specs.declared.what.What.TheVariants as what
use Rattle.exchange_model.proofs.ListLemmas.{Has}
use Rattle.exchange_laws.proofs.EffectLemmas.{longer}
use Rattle.exchange_laws.proofs.EndSteps.{EndGoes, by_option, by_bool}
use Rattle.exchange_laws.proofs.ListLemmas.{has_either, has_mapped}
use Rattle.exchange_laws.proofs.OutcomeKinds.{ArePlain, IsPlainEffect, Kind, Submitting, step_kind}
use Rattle.exchange_laws.proofs.SentLemmas.{one_of_number}
use Rattle.exchange_laws.proofs.SentSteps.{Causes}
use Rattle.exchange_laws.proofs.StepLemmas.{step_goes}
use Rattle.stranger_laws.proofs.OneStep.{row_or_full, rests_same}
use Rattle.mode_values.specs.ModeMatch.{mode_named}
use Rattle.std.specs.Prelude.{length}

-- it was submitted and last sent at this moment or before
pub record IsDated (moment : ℕ) (s : Sent) : Type 0 where
  pub submitted : s.submission.moment ≤ moment
  pub last : s.last ≤ moment

abbrev pub AllDated : End → Type 0
AllDated end = (s : Sent) → Has end.sent s → IsDated end.moment s

-- an effect that uses the clock as it is, or sets it to a later moment
abbrev pub FitsClock : Effect → End → Type 0
FitsClock (effect.Submitted submission) end = submission.moment ≤ end.moment
FitsClock (effect.Ticked tick) end = end.moment ≤ tick.moment
FitsClock (effect.Carried carried) end = ⊥
FitsClock (effect.Kept kept) end = ⊥
FitsClock e end = Unit {0}

abbrev pub AllFitClock : List Effect → End → Type 0
AllFitClock [] end = Unit {0}
AllFitClock (e ∷ effects) end = FitsClock e end × AllFitClock effects (after e end)

dated_later : (a b : ℕ) (s : Sent) → a ≤ b → IsDated a s → IsDated b s
dated_later a b s less d = record { submitted = omega (arith, less, d.submitted); last = omega (arith, less, d.last) }

dated_mapped : (moment : ℕ) (sent : List Sent) (f : Sent → Sent) → ((s : Sent) → Has sent s → IsDated moment (f s))
    → (t : Sent) → Has (map f sent) t → IsDated moment t
dated_mapped moment sent f each t h = let o = has_mapped f sent t h in subst (IsDated moment) o.2 (each o.0 o.1)

dated_if : (moment : ℕ) (b : Bool) (s t : Sent) → IsDated moment s → IsDated moment t → IsDated moment (if b then s else t)
dated_if moment true s t d e = d
dated_if moment false s t d e = e

dated_marked : (moment number : ℕ) (m : Mark) (sent : List Sent) → ((s : Sent) → Has sent s → IsDated moment s)
    → (t : Sent) → Has (changed number (marked m) sent) t → IsDated moment t
unfolding changed
dated_marked moment number m sent all =
    dated_mapped moment sent (λ (s : Sent). if s.submission.number == number then marked m s else s) (λ s h. let d = all s h in
    dated_if moment (s.submission.number == number) (marked m s) s (record { submitted = d.submitted; last = d.last }) d)

dated_new : (end : End) (submission : Submission) → submission.moment ≤ end.moment → (t : Sent)
    → Has (unsent submission ∷ []) t → IsDated end.moment t
dated_new end submission less t (inl e) = subst (IsDated end.moment) e (record { submitted = less; last = omega arith })
dated_new end submission less t (inr none) = absurd none

dated_one : (e : Effect) (end : End) → FitsClock e end → AllDated end → AllDated (after e end)
unfolding after changed
dated_one (effect.Submitted submission) end fits all = λ t h. elim (has_either end.sent (unsent submission ∷ []) t h) [
  | inl old ↦ all t old
  | inr new ↦ dated_new end submission fits t new
]
dated_one (effect.Ticked tick) end fits all =
    dated_mapped tick.moment end.sent (failed_if_spent tick.moment) (λ s h. let d = dated_later end.moment tick.moment s fits (all s h) in
    dated_if tick.moment (is_spent tick.moment s) (marked mark.Failed s) s (record { submitted = d.submitted; last = d.last }) d)
dated_one (effect.Tried number) end fits all =
    dated_mapped end.moment end.sent (λ (s : Sent). if s.submission.number == number then tried end.moment s else s) (λ s h. let d = all s h in
    dated_if end.moment (s.submission.number == number) (tried end.moment s) s (record { submitted = d.submitted; last = omega arith }) d)
dated_one (effect.Delivered delivery) end fits all = all
dated_one (effect.Receipted number) end fits all = dated_marked end.moment number mark.Receipted end.sent all
dated_one (effect.Refused number code) end fits all = dated_marked end.moment number (mark.Refused code) end.sent all
dated_one (effect.Confirmed upto) end fits all = all
dated_one (effect.Carried carried) end fits all = absurd fits
dated_one (effect.Kept kept) end fits all = absurd fits

dated_all : (effects : List Effect) (end : End) → AllFitClock effects end → AllDated end → AllDated (after_all effects end)
dated_all [] end fits all = all
dated_all (e ∷ effects) end fits all = dated_all effects (after e end) fits.1 (dated_one e end fits.0 all)

dated_applied : (effects : List Effect) (end : End) → AllFitClock effects end → AllDated end → AllDated (applied effects end)
unfolding applied
dated_applied [] end fits all = all
dated_applied (e ∷ effects) end fits all = dated_all (e ∷ effects) end fits all

-- the clock doesn't go back
grows_one : (e : Effect) (end : End) → FitsClock e end → end.moment ≤ (after e end).moment
unfolding after
grows_one (effect.Submitted submission) end fits = omega arith
grows_one (effect.Ticked tick) end fits = fits
grows_one (effect.Tried number) end fits = omega arith
grows_one (effect.Delivered delivery) end fits = omega arith
grows_one (effect.Receipted number) end fits = omega arith
grows_one (effect.Refused number code) end fits = omega arith
grows_one (effect.Confirmed upto) end fits = omega arith
grows_one (effect.Carried carried) end fits = absurd fits
grows_one (effect.Kept kept) end fits = absurd fits

grows_all : (effects : List Effect) (end : End) → AllFitClock effects end → end.moment ≤ (after_all effects end).moment
grows_all [] end fits = omega arith
grows_all (e ∷ effects) end fits = omega (arith, grows_one e end fits.0, grows_all effects (after e end) fits.1)

grows : (effects : List Effect) (end : End) → AllFitClock effects end → end.moment ≤ (applied effects end).moment
grows effects end fits = omega (arith, grows_all effects end fits, (longer effects end).moment)

-- the effects of a step
plain_one : (e : Effect) (end : End) → IsPlainEffect e → FitsClock e end
plain_one (effect.Submitted submission) end plain = absurd plain
plain_one (effect.Ticked tick) end plain = absurd plain
plain_one (effect.Tried number) end plain = tt
plain_one (effect.Delivered delivery) end plain = tt
plain_one (effect.Receipted number) end plain = tt
plain_one (effect.Refused number code) end plain = tt
plain_one (effect.Confirmed upto) end plain = tt
plain_one (effect.Carried carried) end plain = absurd plain
plain_one (effect.Kept kept) end plain = absurd plain

plain_fit : (effects : List Effect) (end : End) → ArePlain effects → AllFitClock effects end
plain_fit [] end plain = tt
plain_fit (e ∷ effects) end plain = (plain_one e end plain.0, plain_fit effects (after e end) plain.1)

-- a submission has the clock's moment
pub submitted_now : (modes : List Mode) (end : End) (event : Event) (outcome : Outcome) → Step modes end event outcome
    → (k : Submitting modes end event.what outcome) → k.submission.moment ≡ end.moment
unfolding Submits
submitted_now modes end event outcome step k =
    elim (row_or_full modes end event outcome (what.Submit k.taken.name k.taken.conversation k.taken.loads) step k.taken.asked) [
      | inl row ↦ by_option _ _ _ (mode_named modes k.taken.name) row (λ r. rests (ap (λ (o : Outcome). o.effects) r)) (λ mode _ l.
          by_bool _ _ _ (nat_le 1048576 (length end.sent)) l (λ _ r. rests (ap (λ (o : Outcome). o.effects) r)) (λ _ m.
          by_bool _ _ _ (are_too_large k.taken.loads) m (λ _ r. rests (ap (λ (o : Outcome). o.effects) r)) (λ _ t.
          same t.0 (ap (λ (o : Outcome). o.effects) t.2) ∙ t.1.moment)))
      | inr full ↦ rests (ap (λ (o : Outcome). o.effects) full.1)
    ]
  where
    is : outcome.effects ≡ effect.Submitted k.submission ∷ []
    is = ap (λ (o : Outcome). o.effects) k.is

    rests : outcome.effects ≡ [] → k.submission.moment ≡ end.moment
    rests none = absurd (let no : [] ≡ effect.Submitted k.submission ∷ [] = sym none ∙ is in cc)

    same : (s : Submission) → outcome.effects ≡ effect.Submitted s ∷ [] → k.submission.moment ≡ s.moment
    same s e = let both : effect.Submitted k.submission ∷ [] ≡ effect.Submitted s ∷ [] = sym is ∙ e in
        let one : k.submission ≡ s = cc in ap (λ (u : Submission). u.moment) one

pub step_fits : (modes : List Mode) (end : End) (event : Event) (outcome : Outcome) → Step modes end event outcome
    → AllFitClock outcome.effects end
step_fits modes end event outcome step = by_kind (step_kind modes end event outcome step)
  where
    by_kind : Kind modes end event event.what outcome → AllFitClock outcome.effects end
    by_kind (inl plain) = plain_fit outcome.effects end plain.effects
    by_kind (inr (inl submits)) =
        let now : submits.submission.moment ≤ end.moment = omega (arith, submitted_now modes end event outcome step submits) in
        subst (λ (o : Outcome). AllFitClock o.effects end) (sym submits.is) (now, tt)
    by_kind (inr (inr (inl sets))) = subst (λ (o : Outcome). AllFitClock o.effects end) (sym sets.is) (sets.later, tt)
    by_kind (inr (inr (inr confirms))) = subst (λ (o : Outcome). AllFitClock o.effects end) (sym confirms.is) (tt, tt)

-- the last try of each expired submission is overdue
abbrev pub AllOverdue : End → Type 0
AllOverdue end = (s : Sent) → Has end.sent s → s.mark ≡ mark.Failed → due s ≤ end.moment

-- a tick expires what is overdue, and nothing else
overdue_ticked : (sent : List Sent) (before moment : ℕ) → before ≤ moment → ((s : Sent) → Has sent s → s.mark ≡ mark.Failed → due s ≤ before)
    → (t : Sent) → Has (map (failed_if_spent moment) sent) t → t.mark ≡ mark.Failed → due t ≤ moment
overdue_ticked sent before moment later all t h failed =
    let o = has_mapped (failed_if_spent moment) sent t h in
    subst (λ (u : Sent). u.mark ≡ mark.Failed → due u ≤ moment) o.2 (by_test o.0 o.1 (is_spent moment o.0) refl) failed
  where
    by_test : (s : Sent) → Has sent s → (b : Bool) → is_spent moment s ≡ b → (if b then marked mark.Failed s else s).mark ≡ mark.Failed
        → due (if b then marked mark.Failed s else s) ≤ moment
    by_test s there true spent m = leb-true (due s) moment (and_parts _ _ (and_parts _ _ spent).1).1
    by_test s there false unspent m = omega (arith, later, all s there m)

overdue_step : (modes : List Mode) (end : End) (event : Event) (outcome : Outcome) → AreNumberedFrom 0 end.sent
    → Step modes end event outcome → AllOverdue end → AllOverdue (applied outcome.effects end)
unfolding Ticks applied after
overdue_step modes end event outcome numbered step all = λ t h m.
    elim (goes.sent.marked t h) [ inl s ↦ before t h m s.0 s.1 s.2 s.3 | inr cause ↦ by_tick t h m (subst (λ (n : Mark). Causes event.what n t.submission) m cause) ]
  where
    new : End
    new = applied outcome.effects end

    goes : EndGoes event.what outcome.reply end new
    goes = step_goes modes end event outcome numbered step

    later : end.moment ≤ new.moment
    later = grows outcome.effects end (step_fits modes end event outcome step)

    before : (t : Sent) → Has new.sent t → t.mark ≡ mark.Failed → (s : Sent) → Has end.sent s → s.mark ≡ t.mark → s.submission ≡ t.submission
        → due t ≤ new.moment
    before t h m s there e u =
        let settled : is_pending s ≡ false = ap is_pending_mark (e ∙ m) in
        let same : s ≡ t = one_of_number new.sent s t goes.sent.numbered (goes.sent.settled s there settled) h (ap (λ (x : Submission). x.number) u) in
        let old : due s ≤ end.moment = all s there (e ∙ m) in
        subst (λ (x : Sent). due x ≤ new.moment) same (omega (arith, later, old))

    still : outcome.effects ≡ [] → AllOverdue new
    still none = subst AllOverdue (sym (rests_same end outcome none)) all

    by_tick : (t : Sent) → Has new.sent t → t.mark ≡ mark.Failed → event.what ≡ what.Tick → due t ≤ new.moment
    by_tick t h m tick = elim (row_or_full modes end event outcome what.Tick step tick) [
      | inl row ↦ by_bool _ _ _ (nat_le event.stamp end.moment) row (λ _ r. still (ap (λ (o : Outcome). o.effects) r) t h m) (λ late k.
          subst (λ (o : Outcome). AllOverdue (applied o.effects end)) (sym k.2)
          (overdue_ticked end.sent end.moment k.0.moment (omega (arith, k.1, past event.stamp end.moment late)) all) t h m)
      | inr full ↦ still (ap (λ (o : Outcome). o.effects) full.1) t h m
    ]
      where
        past : (stamp moment : ℕ) → nat_le stamp moment ≡ false → moment ≤ stamp
        past stamp moment e = grind (arith, nat_tests)

-- what holds of an endpoint at each moment
pub record HoldsTime (end : End) : Type 0 where
  pub dated : AllDated end
  pub overdue : AllOverdue end

pub time_all : (all : List Happening) (end : End) → AreNumberedFrom 0 end.sent → MayHappenTo all end → HoldsTime end
    → HoldsTime (end_after all end)
time_all [] end numbered may time = time
time_all (Does act ∷ later) end numbered may time =
    let goes = step_goes act.modes end act.event act.outcome numbered may.0 in
    time_all later (applied act.outcome.effects end) goes.sent.numbered may.1 (record {
      dated = dated_applied act.outcome.effects end (step_fits act.modes end act.event act.outcome may.0) time.dated;
      overdue = overdue_step act.modes end act.event act.outcome numbered may.0 time.overdue;
    })
time_all (Folds site size ∷ later) end numbered may time =
    time_all later (resized size end) numbered may.1 (record { dated = time.dated; overdue = time.overdue })

-- it is due at most a period from now
pub due_dated : (moment : ℕ) (s : Sent) → IsDated moment s → due s ≤ moment + s.submission.period
due_dated moment s d = by_test (s.tries == 0)
  where
    by_test : (b : Bool) → (if b then s.submission.moment else s.last + s.submission.period) ≤ moment + s.submission.period
    by_test true = omega (arith, d.submitted)
    by_test false = omega (arith, d.last)
