-- What is known of an event's outcome. The payloads of a received message come from the disk, so the reply to a `Read` is
-- known where the content of the disk is observable.
use Rattle.std.specs.Prelude.{◌≡◌, ◌⊎◌, ℕ, Bool, true, false, List, []}
use Rattle.exchange_model.specs.End.{End}
use Rattle.exchange_model.specs.Table.{Step, read_reply}
use Rattle.exchange_model.specs.declared.event.Event.{Event}
use Rattle.exchange_model.specs.declared.outcome.Outcome.{Outcome}
use Rattle.exchange_model.specs.declared.reply.Reply.{Reply}
use Rattle.exchange_model.specs.declared.reply.Reply.TheVariants as reply
use Rattle.exchange_model.specs.declared.what.What.TheVariants as what
use Rattle.mode_values.specs.declared.mode.Mode.{Mode}
use Rattle.msh_transitions.specs.Given.{bare_reply}

-- The reply is the table's for the read of this message. Where the disk isn't observable, the payloads aren't known; or
-- they weren't found, and the message counts as gone.
abbrev pub RepliesToRead : Bool → End → ℕ → Reply → Type 0
RepliesToRead true end number r = r ≡ read_reply end number
RepliesToRead false end number r = (bare_reply r ≡ bare_reply (read_reply end number)) ⊎ (r ≡ reply.Gone)

-- a message is read, and nothing changes
pub record ReadsUnseen (end : End) (event : Event) (outcome : Outcome) : Type 0 where
  pub number : ℕ
  pub asked : event.what ≡ what.Read number
  pub rests : outcome.effects ≡ []
  pub reply : RepliesToRead false end number outcome.reply

-- The outcome is the table's. Where the disk isn't observable, the payloads of a `Read` aren't known.
abbrev pub StepWhere : Bool → List Mode → End → Event → Outcome → Type 0
StepWhere true modes end event outcome = Step modes end event outcome
StepWhere false modes end event outcome = Step modes end event outcome ⊎ ReadsUnseen end event outcome
