-- An endpoint's clock, and when its submissions are due by it (AS4 Profile, section 3.2, on retries).
use Rattle.std.specs.Prelude.{◌≡◌, ℕ, ◌+◌, ◌<◌, ◌≤◌, ◌⊎◌, List, Some, slice_get, true}
use Rattle.std.specs.List.{Contains}
use Rattle.as4_effects.specs.declared.effect.Effect.{Effect}
use Rattle.as4_effects.specs.declared.effect.Effect.TheVariants as effect
use Rattle.as4_effects.specs.declared.mark.Mark.TheVariants.{Failed}
use Rattle.as4_effects.specs.declared.submission.Submission.{Submission}
use Rattle.exchange_model.specs.End.{End}
use Rattle.exchange_model.specs.Questions.{due, is_pending}
use Rattle.exchange_model.specs.World.{Act}
use Rattle.exchange_model.specs.declared.sent.Sent.{Sent}
use Rattle.exchange_model.specs.declared.what.What.TheVariants.{Tick}

-- the act was a tick with this stamp
abbrev pub TicksAt : ℕ → Act → Type 0
TicksAt moment act = (act.event.what ≡ Tick) × (act.event.stamp ≡ moment)

-- the clock and the submissions of an endpoint to which these acts led
pub record IsTimely (acts : List Act) (end : End) : Type 0 where
  -- the clock is at the stamp of a tick, or was never set
  pub clock : (end.moment ≡ 0) ⊎ ((act : Act) × Contains acts act × TicksAt end.moment act)
  -- a pending submission is due at most one period after the clock's moment
  pub pending : (s : Sent) → Contains end.sent s → is_pending s ≡ true → due s ≤ end.moment + s.submission.period
  -- the last try of an expired submission is overdue
  pub expired : (s : Sent) → Contains end.sent s → s.mark ≡ Failed → due s ≤ end.moment

-- a step sent the submission at this moment, or left its tries and the time of the last one as they were
abbrev pub TriedAt : ℕ → Sent → Sent → Type 0
TriedAt moment before later =
    ((later.tries ≡ before.tries) × (later.last ≡ before.last)) ⊎ ((before.tries < later.tries) × (later.last ≡ moment))

-- a step of an endpoint uses the moment of its clock
pub record UsesClock (old new : End) (effects : List Effect) : Type 0 where
  -- as the time of a try
  pub tried : (n : ℕ) (s : Sent) → slice_get old.sent n ≡ Some s
      → (same : Sent) × (slice_get new.sent n ≡ Some same) × TriedAt old.moment s same
  -- as the time of a submission
  pub submitted : (s : Submission) → Contains effects (effect.Submitted s) → s.moment ≡ old.moment
