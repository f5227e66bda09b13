-- The plans that take no memory: those for a tick and for a confirmation.
use Rattle.std.specs.Prelude.{◌≡◌, ◌+◌, ◌<◌, ◌≤◌, [], ◌∷◌, length}
use Rattle.std.specs.List.{count_by}
use Rattle.as4_values.specs.declared.moment.TheConstants.{MAX_MOMENT}
use Rattle.as4_effects.specs.declared.effect.Effect.TheVariants as effect
use Rattle.as4_effects.specs.declared.effect.Tick.{Tick}
use Rattle.exchange_model.specs.End.{End}
use Rattle.exchange_model.specs.Questions.{is_spent}
use Rattle.exchange_model.specs.Table.{Step, journal_limit}
use Rattle.exchange_model.specs.declared.event.Event.{Event}
use Rattle.exchange_model.specs.declared.outcome.Outcome.{Outcome}
use Rattle.exchange_model.specs.declared.reply.Reply.TheVariants as reply
use Rattle.msh_core.specs.Machine.{Machine}
use Rattle.msh_core.specs.declared.small.SmallPlan.{SmallPlan}
use Rattle.msh_core.specs.declared.small.SmallPlan.TheVariants as plan

-- the outcome of a plan at an endpoint
abbrev pub StandsFor : End → SmallPlan → Outcome → Type 0
StandsFor end (plan.Tick moment) outcome =
    (tick : Tick) × (tick.moment ≡ moment)
    × (outcome ≡ record { effects = effect.Ticked tick ∷ []; reply = reply.Ticked (count_by (is_spent moment) end.sent) })
StandsFor end (plan.Confirm upto) outcome =
    outcome ≡ record { effects = effect.Confirmed upto ∷ []; reply = reply.Confirmed upto }
StandsFor end (plan.Rest r) outcome = outcome ≡ record { effects = []; reply = r }

-- the plan has the outcome that the machine gives to an event
abbrev pub PlansFor : Machine → Event → SmallPlan → Type 0
PlansFor machine event p =
    (outcome : Outcome) × StandsFor machine.end p outcome × Step machine.modes machine.end event outcome

-- the plan can be carried out; its record has 20 bytes
abbrev pub CanGo : End → SmallPlan → Type 0
CanGo end (plan.Tick moment) =
    (end.moment < moment) × (moment ≤ MAX_MOMENT) × (end.size + 20 ≤ journal_limit)
CanGo end (plan.Confirm upto) =
    (end.confirmed ≤ upto) × (upto < length end.inbox) × (end.size + 20 ≤ journal_limit)
CanGo end (plan.Rest r) = Unit {0}

-- the plan is what this machine does with an event in its present state, and can be carried out
pub record IsSmallReady (machine : Machine) (p : SmallPlan) : Type 0 where
  pub planned : (event : Event) × PlansFor machine event p
  pub goes : CanGo machine.end p
