-- What a partner answers a submission's user message with.
use Rattle.std.specs.Prelude.{◌≡◌, List}
use Rattle.as4_effects.specs.declared.submission.Submission.{Submission}
use Rattle.as4_values.specs.declared.message.Message.{Message}
use Rattle.exchange_model.specs.End.{End}
use Rattle.exchange_model.specs.Table.{Step, message_of}
use Rattle.exchange_model.specs.declared.event.Event.{Event}
use Rattle.exchange_model.specs.declared.outcome.Outcome.{Outcome}
use Rattle.exchange_model.specs.declared.reply.Reply.TheVariants.{Answer}
use Rattle.exchange_model.specs.declared.what.What.TheVariants.{Came}
use Rattle.mode_values.specs.declared.mode.Mode.{Mode}

-- an endpoint with some modes, in some state, receives its user message and answers with this message
pub record IsAnswerTo (s : Submission) (m : Message) : Type 0 where
  pub modes : List Mode
  pub end : End
  pub event : Event
  pub outcome : Outcome
  pub came : event.what ≡ Came (message_of s)
  pub step : Step modes end event outcome
  pub answers : outcome.reply ≡ Answer m
