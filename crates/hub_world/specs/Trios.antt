-- What happens at one of three endpoints in a chain.
use Rattle.std.specs.Prelude.{◌≡◌, ℕ, List, ◌++◌, Bool, true, if◌then◌else◌, length, map, codes}
use Rattle.as4_disk.specs.declared.change.Pick.{Pick}
use Rattle.as4_values.specs.declared.message.Message.{Message}
use Rattle.drill_script.specs.declared.line.EndName.{EndName}
use Rattle.drill_script.specs.declared.line.EndName.TheVariants as name
use Rattle.drill_script.specs.declared.line.LinkName.{LinkName}
use Rattle.drill_texts.specs.Texts.{reply_text, said_line}
use Rattle.drill_world.specs.Endpoints.{EndpointState}
use Rattle.drill_world.specs.Relaying.{RelaysAt}
use Rattle.drill_world.specs.Transcript.{stands}
use Rattle.exchange_model.specs.Table.{Step}
use Rattle.exchange_model.specs.World.{speaker_after}
use Rattle.exchange_model.specs.declared.event.Event.{Event}
use Rattle.exchange_model.specs.declared.outcome.Outcome.{Outcome}
use Rattle.hub_world.specs.Ends.{TrioState, endpoint_of, ends_after, sent, speaker_of, with_speaker}

-- an endpoint takes a step at an event that it meets on a link
pub record MeetsIn (on : LinkName) (end : EndName) (event : Event) (number : ℕ) (lost : Bool) (old : TrioState) (text : List ℕ) (new : TrioState) : Type 0 where
  pub outcome : Outcome
  pub step : Step old.modes (speaker_of end old.ends).end event outcome
  pub says : text ≡ said_line end (reply_text number lost (length (speaker_of end old.ends).said) outcome.reply)
  pub leads : new.ends ≡ ends_after end on outcome lost old.ends

-- the hub does
pub record MeetsAtHub (on : LinkName) (end : EndName) (event : Event) (number : ℕ) (lost : Bool) (old : TrioState) (text : List ℕ) (new : TrioState) : Type 0 where
  pub outcome : Outcome
  pub step : Step old.modes old.ends.hub.end event outcome
  pub says : text ≡ said_line end (reply_text number lost (length old.ends.hub.said) outcome.reply)
  pub leads : new.ends ≡ record old.ends {
    hub = speaker_after outcome lost old.ends.hub;
    links = old.ends.links ++ map (λ (m : Message). on) (sent lost outcome);
  }

-- the step is stopped: its reply is lost, and it stands or is gone
pub record StopsIn (end : EndName) (event : Event) (call : ℕ) (pick : Pick) (old : TrioState) (text : List ℕ) (new : TrioState) : Type 0 where
  pub outcome : Outcome
  pub step : Step old.modes (speaker_of end old.ends).end event outcome
  pub says : text ≡ said_line end (codes "reopened")
  pub leads : new.ends ≡ (if stands call pick then with_speaker end (speaker_after outcome true (speaker_of end old.ends)) old.ends else old.ends)

-- the hub relays
pub record RelaysIn (called : List ℕ) (stamp nonce : ℕ) (old : TrioState) (text : List ℕ) (new : TrioState) : Type 0 where
  pub after : EndpointState
  pub relays : RelaysAt name.Hub called stamp nonce (endpoint_of name.Hub old) text after
  pub leads : new.ends ≡ with_speaker name.Hub after.speaker old.ends
