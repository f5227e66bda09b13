-- What a request at the local door submits.
use Rattle.std.specs.Prelude.{List, Contains}
use Rattle.as4_doors.specs.Targets.{AsksLocally}
use Rattle.as4_effects.specs.declared.effect.Effect.TheVariants.{Submitted}
use Rattle.as4_effects.specs.declared.submission.Submission.{Submission}
use Rattle.as4_http.specs.declared.message.Request.{Request}
use Rattle.exchange_model.specs.End.{End}
use Rattle.exchange_model.specs.Table.{Step}
use Rattle.exchange_model.specs.declared.event.Event.{Event}
use Rattle.exchange_model.specs.declared.outcome.Outcome.{Outcome}
use Rattle.mode_values.specs.declared.mode.Mode.{Mode}

-- a request at the local door asks for an event, and the step for the event submits it
pub record IsSubmittedAtDoor (s : Submission) : Type 0 where
  pub request : Request
  pub modes : List Mode
  pub end : End
  pub event : Event
  pub outcome : Outcome
  pub asks : AsksLocally request event.what
  pub step : Step modes end event outcome
  pub submits : Contains outcome.effects (Submitted s)
