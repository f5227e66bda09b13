-- Ticks alone set the clock, and each to its stamp.
use Rattle.std.proofs.Common.{◌≡◌, ◌≤◌, ◌⊎◌, inl, inr, List, [], ◌∷◌, refl, sym, ap, ◌∙◌, subst, arith}
use Rattle.std.specs.Prelude.{nat_le}
use Rattle.std.proofs.lemmas.Bool.{leb-true}
use Rattle.mode_values.specs.declared.mode.Mode.{Mode}
use Rattle.exchange_model.specs.Alone.{MayHappenTo, end_after}
use Rattle.exchange_model.specs.Apply.{after, applied}
use Rattle.exchange_model.specs.End.{End}
use Rattle.exchange_model.specs.Fold.{resized}
use Rattle.exchange_model.specs.LosslessRound.{IsFull}
use Rattle.exchange_model.specs.Table.{Step, Ticks}
use Rattle.exchange_model.specs.World.{Act, Happening, Does, Folds, acts_of}
use Rattle.exchange_model.specs.declared.event.Event.{Event}
use Rattle.exchange_model.specs.declared.outcome.Outcome.{Outcome}
use Rattle.exchange_model.specs.declared.what.What.TheVariants as what
use Rattle.exchange_model.proofs.ListLemmas.{Has}
use Rattle.exchange_laws.proofs.EffectLemmas.{plain_applied}
use Rattle.exchange_laws.proofs.EndSteps.{by_bool}
use Rattle.exchange_laws.proofs.OutcomeKinds.{Kind, Setting, step_kind}
use Rattle.exchange_laws.proofs.RoundLemmas.{row_at}
use Rattle.stranger_laws.specs.Timely.{TicksAt}
use Rattle.stranger_laws.proofs.OneStep.{row_or_full, rests_same}
use Rattle.stranger_laws.proofs.ReplyLemmas.{Suits, row_suits}

-- after a tick the clock is at least at its stamp
pub tick_shows : (modes : List Mode) (end : End) (event : Event) (outcome : Outcome) → Step modes end event outcome → event.what ≡ what.Tick
    → (IsFull outcome.reply → ⊥) → event.stamp ≤ (applied outcome.effects end).moment
unfolding Ticks applied after
tick_shows modes end event outcome step ticks roomy =
    by_bool _ _ _ (nat_le event.stamp end.moment) (row_at modes end event outcome what.Tick step (inl roomy) ticks)
    (λ early r. subst (λ (o : Outcome). event.stamp ≤ (applied o.effects end).moment) (sym r) (leb-true event.stamp end.moment early))
    (λ _ t. subst (λ (o : Outcome). event.stamp ≤ (applied o.effects end).moment) (sym t.2) (omega (arith, t.1)))

-- the clock stays, or a tick sets it to its stamp
abbrev IsSet : Event → End → End → Type 0
IsSet event old new = (new.moment ≡ old.moment) ⊎ ((event.what ≡ what.Tick) × (new.moment ≡ event.stamp))

pub sets_clock : (modes : List Mode) (end : End) (event : Event) (outcome : Outcome) → Step modes end event outcome
    → IsSet event end (applied outcome.effects end)
unfolding applied after
sets_clock modes end event outcome step = by_kind (step_kind modes end event outcome step)
  where
    by_tick : Setting end event outcome → IsSet event end (applied outcome.effects end)
    by_tick sets = elim (row_or_full modes end event outcome event.what step refl) [
      | inl row ↦ (let tick = subst (λ (o : Outcome). Suits event.what o.reply) sets.is (row_suits modes end event event.what outcome row) in
          inr (tick, subst (λ (o : Outcome). (applied o.effects end).moment ≡ event.stamp) (sym sets.is) sets.at))
      | inr full ↦ inl (ap (λ (e : End). e.moment) (rests_same end outcome (ap (λ (o : Outcome). o.effects) full.1)))
    ]

    by_kind : Kind modes end event event.what outcome → IsSet event end (applied outcome.effects end)
    by_kind (inl plain) = inl (plain_applied outcome.effects end plain.effects).moment
    by_kind (inr (inl submits)) = inl (subst (λ (o : Outcome). (applied o.effects end).moment ≡ end.moment) (sym submits.is) refl)
    by_kind (inr (inr (inl sets))) = by_tick sets
    by_kind (inr (inr (inr confirms))) = inl (subst (λ (o : Outcome). (applied o.effects end).moment ≡ end.moment) (sym confirms.is) refl)

-- so after any run it is where it was, or at the stamp of a tick
abbrev pub IsShown : List Act → End → End → Type 0
IsShown acts old new = (new.moment ≡ old.moment) ⊎ ((act : Act) × Has acts act × TicksAt new.moment act)

pub clock_all : (all : List Happening) (end : End) → MayHappenTo all end → IsShown (acts_of all) end (end_after all end)
clock_all [] end may = inl refl
clock_all (Does act ∷ later) end may = by_later (clock_all later new may.1)
  where
    new : End
    new = applied act.outcome.effects end

    last : End
    last = end_after later new

    by_now : last.moment ≡ new.moment → IsShown (act ∷ acts_of later) end last
    by_now same = elim (sets_clock act.modes end act.event act.outcome may.0) [
      | inl stays ↦ inl (same ∙ stays)
      | inr set ↦ inr (act, inl refl, (set.0, sym (same ∙ set.1)))
    ]

    by_later : IsShown (acts_of later) new last → IsShown (act ∷ acts_of later) end last
    by_later (inl same) = by_now same
    by_later (inr tick) = inr (tick.0, inr tick.1, tick.2)
clock_all (Folds site size ∷ later) end may = clock_all later (resized size end) may.1
