-- What an endpoint does that relays the next message of its inbox: it reads the message whose place is its number of
-- submissions, and submits it by a mode.
use Rattle.std.specs.Prelude.{◌≡◌, ℕ, List, false, true, Option, None, Some, codes, length}
use Rattle.as4_hub.specs.declared.ended.RelayEnd.{RelayEnd}
use Rattle.as4_hub.specs.declared.ended.RelayEnd.TheVariants as ended
use Rattle.as4_values.specs.declared.header.UserHeader.{UserHeader}
use Rattle.as4_values.specs.declared.payload.Payload.{Payload}
use Rattle.drill_script.specs.declared.line.EndName.{EndName}
use Rattle.drill_texts.specs.Texts.{reply_text, said_line}
use Rattle.drill_world.specs.Endpoints.{EndpointState}
use Rattle.exchange_model.specs.Table.{Step}
use Rattle.exchange_model.specs.World.{speaker_after}
use Rattle.exchange_model.specs.declared.event.Event.{Event}
use Rattle.exchange_model.specs.declared.outcome.Outcome.{Outcome}
use Rattle.exchange_model.specs.declared.reply.Reply.{Reply}
use Rattle.exchange_model.specs.declared.reply.Reply.TheVariants as reply
use Rattle.exchange_model.specs.declared.what.What.{What}
use Rattle.exchange_model.specs.declared.what.What.TheVariants as what
use Rattle.hub_laws.specs.Chain.{loads_of}

-- the reply that is written of a relaying; none where the disk, the history or memory ended it
abbrev pub reply_of : RelayEnd → Option Reply
reply_of (ended.Relayed number id) = Some (reply.Submitted number id)
reply_of ended.Nothing = Some reply.Nothing
reply_of ended.Gone = Some reply.Gone
reply_of ended.NoMode = Some reply.NoMode
reply_of ended.OutboxFull = Some reply.OutboxFull
reply_of ended.TooLarge = Some reply.TooLarge
reply_of (ended.Full size need) = Some (reply.Full size need)
reply_of other = None

-- an event of this stamp and nonce has this outcome
pub record Steps (w : What) (stamp nonce : ℕ) (at : EndpointState) (outcome : Outcome) : Type 0 where
  pub event : Event
  pub does : event.what ≡ w
  pub stamped : event.stamp ≡ stamp
  pub named : event.nonce ≡ nonce
  pub step : Step at.modes at.speaker.end event outcome

-- a message that was read is submitted by the mode
pub record SubmitsAt (end : EndName) (mode : List ℕ) (stamp nonce : ℕ) (header : UserHeader) (payloads : List Payload) (old : EndpointState) (text : List ℕ) (new : EndpointState) : Type 0 where
  pub outcome : Outcome
  pub steps : Steps (what.Submit mode header.conversation (loads_of payloads)) stamp nonce old outcome
  pub says : text ≡ said_line end (reply_text 0 false 0 outcome.reply)
  pub leads : new.speaker ≡ speaker_after outcome true old.speaker

-- after the reply to the `Read`
abbrev pub FollowsRead : EndName → List ℕ → ℕ → ℕ → Reply → EndpointState → List ℕ → EndpointState → Type 0
FollowsRead end mode stamp nonce (reply.Entry header payloads) old text new = SubmitsAt end mode stamp nonce header payloads old text new
FollowsRead end mode stamp nonce reply.NoEntry old text new =
    (text ≡ said_line end (codes "nothing")) × (new.speaker ≡ old.speaker)
FollowsRead end mode stamp nonce reply.Gone old text new =
    (text ≡ said_line end (codes "gone")) × (new.speaker ≡ old.speaker)
FollowsRead end mode stamp nonce other old text new = ⊥

pub record RelaysAt (end : EndName) (mode : List ℕ) (stamp nonce : ℕ) (old : EndpointState) (text : List ℕ) (new : EndpointState) : Type 0 where
  pub read : Outcome
  pub steps : Steps (what.Read (length old.speaker.end.sent)) stamp nonce old read
  pub rest : FollowsRead end mode stamp nonce read.reply old text new
