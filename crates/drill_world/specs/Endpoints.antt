-- One end of a drill: its modes, what it has sent, what it does with an event, and what it is behind a stop or a fold.
use Rattle.std.specs.Prelude.{◌≡◌, ◌⊎◌, ℕ, ◌<◌, ◌≤◌, List, Bool, true, IsTrue, if◌then◌else◌, length}
use Rattle.std.specs.List.{All}
use Rattle.as4_values.specs.declared.message.Message.{Message}
use Rattle.mode_values.specs.declared.mode.Mode.{Mode}
use Rattle.drill_script.specs.declared.line.EndName.{EndName}
use Rattle.drill_texts.specs.Texts.{said_line, reply_text}
use Rattle.exchange_model.specs.Coming.{may_come}
use Rattle.exchange_model.specs.End.{End}
use Rattle.exchange_model.specs.Fold.{IsFoldedSize}
use Rattle.exchange_model.specs.Table.{Step}
use Rattle.exchange_model.specs.World.{Speaker, folded, speaker_after}
use Rattle.exchange_model.specs.declared.event.Event.{Event}
use Rattle.exchange_model.specs.declared.outcome.Outcome.{Outcome}
use Rattle.exchange_model.specs.declared.what.What.TheVariants as what

-- an end with what it has sent, and its modes
pub record EndpointState : Type 0 where
  pub speaker : Speaker
  pub modes : List Mode

-- the other end can take each of these
abbrev pub CanAllCome : List Message → Type 0
CanAllCome said = All (λ (message : Message). IsTrue (may_come (what.Came message))) said

-- the end takes a step at an event, and this is written at a line that names the number
pub record Meets (at : EndName) (event : Event) (number : ℕ) (lost : Bool) (old : EndpointState) (text : List ℕ) (new : EndpointState) : Type 0 where
  pub outcome : Outcome
  pub step : Step old.modes old.speaker.end event outcome
  pub says : text ≡ said_line at (reply_text number lost (length old.speaker.said) outcome.reply)
  pub leads : new.speaker ≡ speaker_after outcome lost old.speaker

-- the end takes a step at an event and is stopped: its reply is lost, and its step stands or is gone
pub record IsStoppedAt (event : Event) (stands : Bool) (old new : EndpointState) : Type 0 where
  pub outcome : Outcome
  pub step : Step old.modes old.speaker.end event outcome
  pub leads : new.speaker ≡ (if stands then speaker_after outcome true old.speaker else old.speaker)

-- P holds of the size that the end's journal has once it is folded, if that is less than it has, and Q if it isn't
abbrev pub MatchFold : End → (ℕ → Type 0) → Type 0 → Type 0
MatchFold end P Q =
    ((size : ℕ) × IsFoldedSize end size × (size < end.size) × P size)
    ⊎ (((size : ℕ) → IsFoldedSize end size → end.size ≤ size) × Q)

-- the journal of the end is folded where that makes it shorter
abbrev pub FoldsTo : EndpointState → EndpointState → Type 0
FoldsTo old new = MatchFold old.speaker.end (λ size. new.speaker ≡ folded size old.speaker) (new.speaker ≡ old.speaker)
