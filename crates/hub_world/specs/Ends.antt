-- The three endpoints of a chain, f, h and l, with what each has sent. The hub sends on two links.
use Rattle.std.specs.Prelude.{ℕ, List, [], ◌∷◌, ◌++◌, Bool, true, false, ◌&&◌, if◌then◌else◌, Option, None, Some, map, option_map, slice_get}
use Rattle.as4_values.specs.declared.message.Message.{Message}
use Rattle.mode_values.specs.declared.mode.Mode.{Mode}
use Rattle.drill_script.specs.declared.line.EndName.{EndName}
use Rattle.drill_script.specs.declared.line.EndName.TheVariants as name
use Rattle.drill_script.specs.declared.line.LinkName.{LinkName}
use Rattle.drill_script.specs.declared.line.LinkName.TheVariants as link
use Rattle.drill_world.specs.Endpoints.{EndpointState}
use Rattle.exchange_model.specs.Questions.{sent_at}
use Rattle.exchange_model.specs.World.{Speaker, new_speaker, sends, speaker_after}
use Rattle.exchange_model.specs.declared.outcome.Outcome.{Outcome}
use Rattle.hub_laws.specs.Chain.{Chain, Front, Link, Rear}

-- the speakers, and the link of each message that the hub has sent, in order
pub record Ends : Type 0 where
  pub first : Speaker
  pub hub : Speaker
  pub last : Speaker
  pub links : List LinkName

abbrev pub new_ends : Ends
new_ends = record { first = new_speaker; hub = new_speaker; last = new_speaker; links = [] }

abbrev pub speaker_of : EndName → Ends → Speaker
speaker_of name.First ends = ends.first
speaker_of name.Last ends = ends.last
speaker_of other ends = ends.hub

abbrev pub with_speaker : EndName → Speaker → Ends → Ends
with_speaker name.First speaker ends = record ends { first = speaker }
with_speaker name.Last speaker ends = record ends { last = speaker }
with_speaker other speaker ends = record ends { hub = speaker }

-- the message that an outcome sends, unless it is lost
abbrev pub sent : Bool → Outcome → List Message
sent true outcome = []
sent false outcome = sends outcome.reply

-- the endpoints after an outcome at one of them, which met its event on this link
abbrev pub ends_after : EndName → LinkName → Outcome → Bool → Ends → Ends
ends_after name.First on outcome lost ends = record ends { first = speaker_after outcome lost ends.first }
ends_after name.Last on outcome lost ends = record ends { last = speaker_after outcome lost ends.last }
ends_after other on outcome lost ends = record ends {
  hub = speaker_after outcome lost ends.hub;
  links = ends.links ++ map (λ (m : Message). on) (sent lost outcome);
}

abbrev pub is_same_link : LinkName → Option LinkName → Bool
is_same_link link.Front (Some link.Front) = true
is_same_link link.Rear (Some link.Rear) = true
is_same_link on other = false

-- the hub's message of this number was sent on this link
abbrev pub is_on : LinkName → ℕ → Ends → Bool
is_on on number ends = is_same_link on (slice_get ends.links number)

abbrev pub is_outer : EndName → Bool
is_outer name.First = true
is_outer name.Last = true
is_outer other = false

abbrev pub is_inner : EndName → Bool
is_inner name.Hub = true
is_inner other = false

-- the package of this number from an endpoint goes to this one
abbrev pub goes_to : EndName → EndName → ℕ → Ends → Bool
goes_to name.Hub from number ends = is_outer from
goes_to name.First from number ends = is_inner from && is_on link.Front number ends
goes_to name.Last from number ends = is_inner from && is_on link.Rear number ends
goes_to other from number ends = false

abbrev pub package_for : EndName → EndName → ℕ → Ends → Option Message
package_for end from number ends =
    if goes_to end from number ends then slice_get (speaker_of from ends).said number else None

-- the identifier of the endpoint's submission of this number
abbrev pub id_at : EndName → ℕ → Ends → Option (List ℕ)
id_at end number ends =
    option_map (λ s. s.submission.header.id) (sent_at number (speaker_of end ends).end.sent)

-- the link on which an endpoint meets an event: the hub meets on the front link what comes from the first endpoint
abbrev pub link_for : EndName → Option EndName → LinkName
link_for name.First from = link.Front
link_for name.Hub (Some name.First) = link.Front
link_for other from = link.Rear

-- of these messages, those that were sent on this link
abbrev pub said_on : LinkName → List LinkName → List Message → List Message
said_on on [] messages = []
said_on on (l ∷ links) [] = []
said_on on (l ∷ links) (m ∷ messages) =
    if is_same_link on (Some l) then m ∷ said_on on links messages else said_on on links messages

-- the chain of the delivery law
abbrev pub chain_of : Ends → Chain
chain_of ends = record {
  first = ends.first;
  hub = ends.hub.end;
  back = said_on link.Front ends.links ends.hub.said;
  onwards = said_on link.Rear ends.links ends.hub.said;
  last = ends.last;
}

abbrev pub link_of : LinkName → Link
link_of link.Front = Front
link_of link.Rear = Rear

-- the endpoints and the modes that all have
pub record TrioState : Type 0 where
  pub ends : Ends
  pub modes : List Mode

-- what one of them is
abbrev pub endpoint_of : EndName → TrioState → EndpointState
endpoint_of end trio = record { speaker = speaker_of end trio.ends; modes = trio.modes }
