-- The one effect of a row can be applied where it fits.
use Rattle.std.proofs.Common.{◌≡◌, ℕ, suc, ◌≤◌, List, [], ◌∷◌, true, false, not, length, refl, ap, sym, subst, arith}
use Rattle.std.proofs.lemmas.Bool.{and_from, le-leb, lt-ltb}
use Rattle.as4_effects.specs.declared.delivery.Delivery.{Delivery}
use Rattle.as4_effects.specs.declared.effect.Effect.{Effect}
use Rattle.as4_effects.specs.declared.effect.Effect.TheVariants as effect
use Rattle.as4_effects.specs.declared.effect.Tick.{Tick}
use Rattle.msh_state.specs.Standing.{CanStand}
use Rattle.exchange_model.specs.Apply.{is_fit}
use Rattle.exchange_model.specs.End.{End}
use Rattle.exchange_model.specs.Questions.{is_known}
use Rattle.exchange_model.specs.Table.{Gives}
use Rattle.exchange_model.specs.declared.outcome.Outcome.{Outcome}
use Rattle.exchange_model.specs.declared.reply.Reply.{Reply}

one_stands : (e : Effect) (end : End) → is_fit e end ≡ true → CanStand end (e ∷ [])
one_stands e end fit = record { fit = rw fit refl; few = omega arith; one_room = tt }

pub gives_stands : (e : Effect) (r : Reply) (outcome : Outcome) (end : End) → Gives e r outcome → is_fit e end ≡ true
    → CanStand end outcome.effects
gives_stands e r outcome end g fit =
    subst (λ (es : List Effect). CanStand end es) (sym (ap (λ (o : Outcome). o.effects) g)) (one_stands e end fit)

-- a later moment
pub tick_fits : (tick : Tick) (end : End) → suc end.moment ≤ tick.moment → is_fit (effect.Ticked tick) end ≡ true
unfolding is_fit
tick_fits tick end later = lt-ltb end.moment tick.moment (omega arith)

-- a message that wasn't received before
pub delivery_fits : (d : Delivery) (end : End) → is_known d.header.id end.inbox ≡ false → is_fit (effect.Delivered d) end ≡ true
unfolding is_fit
delivery_fits d end new = ap not new

-- a message of the inbox that isn't confirmed
pub confirmation_fits : (upto : ℕ) (end : End) → end.confirmed ≤ upto → suc upto ≤ length end.inbox
    → is_fit (effect.Confirmed upto) end ≡ true
unfolding is_fit
confirmation_fits upto end after within =
    and_from _ _ (le-leb end.confirmed upto after) (lt-ltb upto (length end.inbox) (omega arith))
