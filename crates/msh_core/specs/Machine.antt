-- The machine of one endpoint, and its plans for events.
use Rattle.std.specs.Prelude.{◌≡◌, ℕ, List, true, map}
use Rattle.std.specs.List.{AllByRecursion}
use Rattle.as4_effects.specs.declared.effect.Effect.{Effect}
use Rattle.as4_effects.specs.declared.queue.Queue.{Queue}
use Rattle.as4_values.specs.declared.payload.Payload.{Payload}
use Rattle.mode_values.specs.declared.mode.Mode.{Mode}
use Rattle.exchange_model.specs.End.{End}
use Rattle.exchange_model.specs.Table.{IsLimited, has_room}
use Rattle.exchange_model.specs.declared.event.Event.{Event}
use Rattle.exchange_model.specs.declared.outcome.Outcome.{Outcome}
use Rattle.exchange_model.specs.declared.reply.Reply.{Reply}
use Rattle.exchange_model.specs.declared.reply.Reply.TheVariants as reply
use Rattle.exchange_model.specs.declared.sent.Sent.{Sent}
use Rattle.fold_laws.specs.Reached.{IsReached}
use Rattle.inbox.specs.Spots.{Spot}
use Rattle.inbox.specs.declared.held.Held.{Held}
use Rattle.msh_state.specs.Places.{EachOpen, IsMeasured}
use Rattle.msh_state.specs.Reading.{IsRead}
use Rattle.msh_state.specs.Rooms.{Rooms, HasRoom, queue_for}
use Rattle.msh_state.specs.Standing.{CanStand}
use Rattle.msh_transitions.specs.Given.{GivesRow}

-- an endpoint, where the payloads of its received messages are, its modes, and the room of its tables
pub record Machine : Type 0 where
  pub end : End
  pub places : List Spot
  pub modes : List Mode
  pub rooms : Rooms

-- what the machine has for a number in its inbox
abbrev pub IsHeldBy : Machine → ℕ → Held → Type 0
IsHeldBy machine n held = IsRead (record { end = machine.end; places = machine.places; rooms = machine.rooms }) n held

-- effects that fit lead to the endpoint, and the place of each open entry has the length of a body that delivers the
-- entry alone
pub record IsConsistent (end : End) (places : List Spot) : Type 0 where
  pub reached : IsReached end
  pub measured : EachOpen IsMeasured end.confirmed places end.inbox

-- an outcome, and the queue in which each effect moves a submission
pub record Planned : Type 0 where
  pub outcome : Outcome
  pub queues : List Queue

-- This machine gives the outcome to an event. It is a step of the machine's table, except that a message that is read
-- has no payloads: these aren't in memory.
pub record IsGiven (modes : List Mode) (end : End) (event : Event) (outcome : Outcome) : Type 0 where
  pub row : Outcome
  pub given : GivesRow modes end event event.what row
  pub limited : IsLimited end row outcome

-- a message that was read with these payloads; any other reply stays
abbrev pub filled_reply : List Payload → Reply → Reply
filled_reply payloads (reply.Entry header others) = reply.Entry header payloads
filled_reply payloads other = other

abbrev pub filled : List Payload → Outcome → Outcome
filled payloads outcome = record outcome { reply = filled_reply payloads outcome.reply }

-- there is room for each of these
abbrev pub HaveRoom : Rooms → List Sent → List Effect → Type 0
HaveRoom rooms sent effects = AllByRecursion (HasRoom rooms sent) effects

-- the plan can be carried out by this machine in its present state
pub record IsReady (machine : Machine) (plan : Planned) : Type 0 where
  pub stands : CanStand machine.end plan.outcome.effects
  pub queues : plan.queues ≡ map (queue_for machine.end.sent) plan.outcome.effects
  pub room : HaveRoom machine.rooms machine.end.sent plan.outcome.effects
  pub limited : has_room machine.end plan.outcome.effects ≡ true
