-- The records of ticks and confirmations.
use Rattle.std.proofs.Common.{◌≡◌, ◌≢◌, ℕ, ◌<◌, ◌^◌, List, [], ◌∷◌, None, true, nat_le, nat_lt, length, refl, sym, ap, ◌∙◌, subst, arith}
use Rattle.std.specs.Prelude.{◌&&◌}
use Rattle.std.proofs.lemmas.Bool.{le-leb, lt-ltb}
use Rattle.as4_effects.specs.Effects.{effects_body}
use Rattle.as4_effects.specs.declared.effect.Effect.{Effect}
use Rattle.as4_effects.specs.declared.effect.Effect.TheVariants as effect
use Rattle.as4_effects.specs.declared.effect.Tick.{Tick}
use Rattle.event_code.specs.Spelled.{IsSpelledEffect}
use Rattle.exchange_model.specs.Apply.{first_unfit, is_fit}
use Rattle.exchange_model.specs.End.{End}
use Rattle.exchange_model.specs.declared.outcome.Outcome.{Outcome}
use Rattle.msh_core.specs.Small.{CanGo, StandsFor}
use Rattle.msh_core.specs.declared.small.SmallPlan.{SmallPlan}
use Rattle.msh_core.specs.declared.small.SmallPlan.TheVariants as plan
use Rattle.inbox.specs.Spots.{Spot}
use Rattle.msh_state.specs.Places.{places_after, places_after_all}
use Rattle.msh_recovery.specs.Records.{IsBodyOf}

-- the effects have this body, and fit
abbrev pub CanBeAppended : List Effect → List ℕ → End → Type 0
CanBeAppended effects body end = IsBodyOf effects body × (first_unfit effects end ≡ None)

alone : (e : Effect) (body : List ℕ) (end : End) (outcome : Outcome) → IsSpelledEffect e → body ≡ effects_body (e ∷ []) → is_fit e end ≡ true → outcome.effects ≡ e ∷ []
    → CanBeAppended outcome.effects body end
alone e body end outcome spelled bytes fits is =
    let body_is : IsBodyOf (e ∷ []) body = record { some = omega arith; counted = omega arith; spelled = (spelled, tt); bytes = bytes } in
    let fit : first_unfit (e ∷ []) end ≡ None = rw fits refl in
    subst (λ (effects : List Effect). CanBeAppended effects body end) (sym is) (body_is, fit)

pub tick_fits : (moment : ℕ) (body : List ℕ) (end : End) (outcome : Outcome) → ((tick : Tick) → tick.moment ≡ moment → body ≡ effects_body (effect.Ticked tick ∷ []))
    → CanGo end (plan.Tick moment) → StandsFor end (plan.Tick moment) outcome → CanBeAppended outcome.effects body end
unfolding is_fit IsSpelledEffect
tick_fits moment body end outcome bytes goes (tick, same, is) =
    alone (effect.Ticked tick) body end outcome tt (bytes tick same)
    (lt-ltb end.moment tick.moment (omega (arith, goes.0, same))) (ap (λ (o : Outcome). o.effects) is)

pub confirm_fits : (upto : ℕ) (body : List ℕ) (end : End) (outcome : Outcome) → upto < 2 ^ 64 → body ≡ effects_body (effect.Confirmed upto ∷ [])
    → CanGo end (plan.Confirm upto) → StandsFor end (plan.Confirm upto) outcome → CanBeAppended outcome.effects body end
unfolding is_fit IsSpelledEffect
confirm_fits upto body end outcome small bytes goes is =
    let first : nat_le end.confirmed upto ≡ true = le-leb end.confirmed upto goes.0 in
    let next : nat_lt upto (length end.inbox) ≡ true = lt-ltb upto (length end.inbox) goes.1 in
    let fits : (nat_le end.confirmed upto && nat_lt upto (length end.inbox)) ≡ true = rw (first, next) refl in
    alone (effect.Confirmed upto) body end outcome small bytes fits (ap (λ (o : Outcome). o.effects) is)

some : (e : Effect) → e ∷ [] ≡ [] → ⊥
some e same = cc

-- a plan that doesn't rest has effects
pub tick_some : (moment : ℕ) (end : End) (outcome : Outcome) → StandsFor end (plan.Tick moment) outcome → outcome.effects ≢ []
tick_some moment end outcome (tick, same, is) none = some (effect.Ticked tick) (sym (ap (λ (o : Outcome). o.effects) is) ∙ none)

pub confirm_some : (upto : ℕ) (end : End) (outcome : Outcome) → StandsFor end (plan.Confirm upto) outcome → outcome.effects ≢ []
confirm_some upto end outcome is none = some (effect.Confirmed upto) (sym (ap (λ (o : Outcome). o.effects) is) ∙ none)

-- a tick and a confirmation leave the places as they are
pub small_places : (p : SmallPlan) (end : End) (outcome : Outcome) (gate : ℕ) (places : List Spot) → StandsFor end p outcome → places ≡ places_after_all outcome.effects gate places
unfolding places_after_all places_after
small_places (plan.Tick moment) end outcome gate places (tick, same, is) =
    ap (λ (o : Outcome). places_after_all o.effects gate places) (sym is)
small_places (plan.Confirm upto) end outcome gate places is =
    ap (λ (o : Outcome). places_after_all o.effects gate places) (sym is)
small_places (plan.Rest r) end outcome gate places is =
    ap (λ (o : Outcome). places_after_all o.effects gate places) (sym is)
