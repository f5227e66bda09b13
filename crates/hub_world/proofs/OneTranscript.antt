-- A script of a chain has one transcript: the line and the state determine what is written and what it leads to.
use Rattle.std.proofs.Common.{◌≡◌, ℕ, List, [], ◌∷◌, ◌++◌, true, false, if◌then◌else◌, length, sym, ap, ◌∙◌, subst}
use Rattle.as4_disk.specs.declared.change.Pick.{Pick}
use Rattle.mode_values.specs.declared.mode.Mode.{Mode}
use Rattle.carrier.proofs.EventLemmas.{event_told}
use Rattle.drill_script.specs.declared.line.EndName.{EndName}
use Rattle.drill_script.specs.declared.line.Line.{Line}
use Rattle.drill_script.specs.declared.line.Line.TheVariants as line
use Rattle.drill_script.specs.declared.line.LinkName.{LinkName}
use Rattle.drill_texts.specs.Texts.{reply_text, said_line}
use Rattle.drill_world.proofs.OneTranscript.{one_mode}
use Rattle.drill_world.specs.Endpoints.{EndpointState}
use Rattle.drill_world.specs.declared.asked.Asked.{Asked}
use Rattle.drill_world.specs.Relaying.{FollowsRead, RelaysAt, Steps}
use Rattle.drill_world.specs.Transcript.{stands}
use Rattle.exchange_model.specs.Table.{Step}
use Rattle.exchange_model.specs.World.{Speaker, speaker_after}
use Rattle.exchange_model.specs.declared.event.Event.{Event}
use Rattle.exchange_model.specs.declared.outcome.Outcome.{Outcome}
use Rattle.exchange_model.specs.declared.reply.Reply.{Reply}
use Rattle.exchange_model.specs.declared.reply.Reply.TheVariants as reply
use Rattle.exchange_model.specs.declared.what.What.{What}
use Rattle.hub_world.specs.Ends.{ends_after, speaker_of}
use Rattle.hub_world.specs.Transcript.{Acts, Doing, Does, HubState, IsEventOf, IsRelayed, IsStopped, Makes, Plays, PlaysAll, Relays, Reopens, Says, Sets, Stops, counted, doing_of}
use Rattle.outcome_laws.proofs.OneOutcome.{one_outcome}

-- an event has one outcome

one_event : (ask : Asked) (old : HubState) (a b : Event) → IsEventOf ask old a → IsEventOf ask old b → a ≡ b
one_event ask old a b h k = event_told a b (h.stamp ∙ sym k.stamp) (h.nonce ∙ sym k.nonce) (h.does ∙ sym k.does)

one_of : (ask : Asked) (old : HubState) (a b : Event) (o p : Outcome) → IsEventOf ask old a → IsEventOf ask old b
    → Step old.modes (speaker_of ask.end old.ends).end a o → Step old.modes (speaker_of ask.end old.ends).end b p → o ≡ p
one_of ask old a b o p h k first next =
    one_outcome old.modes (speaker_of ask.end old.ends).end b o p
    (subst (λ (e : Event). Step old.modes (speaker_of ask.end old.ends).end e o) (one_event ask old a b h k) first) next

one_makes : (on : LinkName) (ask : Asked) (old a b : HubState) (text words : List ℕ) → Makes on ask old text a → Makes on ask old words b
    → (text ≡ words) × (a ≡ b)
one_makes on ask old a b text words h k =
    let same = one_of ask old h.event k.event h.outcome k.outcome h.is k.is h.step k.step in (
      h.says
          ∙ ap (λ (o : Outcome). said_line ask.end (reply_text ask.number ask.lost (length (speaker_of ask.end old.ends).said) o.reply)) same
          ∙ sym k.says,
      h.leads ∙ ap (λ (o : Outcome). counted (record old { ends = ends_after ask.end on o ask.lost old.ends })) same ∙ sym k.leads,
    )

one_stop : (call : ℕ) (pick : Pick) (on : LinkName) (ask : Asked) (old a b : HubState) (text words : List ℕ) → IsStopped call pick on ask old text a
    → IsStopped call pick on ask old words b → (text ≡ words) × (a ≡ b)
one_stop call pick on ask old a b text words h k =
    let same = one_of ask old h.event k.event h.outcome k.outcome h.is k.is h.step k.step in (
      h.says ∙ sym k.says,
      h.leads
          ∙ ap (λ (o : Outcome). counted (record old { ends = if stands call pick then ends_after ask.end on o true old.ends else old.ends })) same
          ∙ sym k.leads,
    )

-- a relaying has one end

one_step : (w : What) (stamp nonce : ℕ) (at : EndpointState) (o p : Outcome) → Steps w stamp nonce at o → Steps w stamp nonce at p → o ≡ p
one_step w stamp nonce at o p h k =
    let events : h.event ≡ k.event = event_told h.event k.event (h.stamped ∙ sym k.stamped) (h.named ∙ sym k.named) (h.does ∙ sym k.does) in
    one_outcome at.modes at.speaker.end k.event o p (subst (λ (e : Event). Step at.modes at.speaker.end e o) events h.step) k.step

one_follows : (end : EndName) (mode : List ℕ) (stamp nonce : ℕ) (r : Reply) (old a b : EndpointState) (text words : List ℕ)
    → FollowsRead end mode stamp nonce r old text a → FollowsRead end mode stamp nonce r old words b → (text ≡ words) × (a.speaker ≡ b.speaker)
one_follows end mode stamp nonce (reply.Entry header payloads) old a b text words h k =
    let same = one_step _ stamp nonce old h.outcome k.outcome h.steps k.steps in (
      h.says ∙ ap (λ (o : Outcome). said_line end (reply_text 0 false 0 o.reply)) same ∙ sym k.says,
      h.leads ∙ ap (λ (o : Outcome). speaker_after o true old.speaker) same ∙ sym k.leads,
    )
one_follows end mode stamp nonce reply.NoEntry old a b text words h k = (h.0 ∙ sym k.0, h.1 ∙ sym k.1)
one_follows end mode stamp nonce reply.Gone old a b text words h k = (h.0 ∙ sym k.0, h.1 ∙ sym k.1)
one_follows end mode stamp nonce other old a b text words h k = absurd h

one_relay_at : (end : EndName) (mode : List ℕ) (stamp nonce : ℕ) (old a b : EndpointState) (text words : List ℕ)
    → RelaysAt end mode stamp nonce old text a → RelaysAt end mode stamp nonce old words b → (text ≡ words) × (a.speaker ≡ b.speaker)
one_relay_at end mode stamp nonce old a b text words h k =
    let same = one_step _ stamp nonce old h.read k.read h.steps k.steps in
    one_follows end mode stamp nonce k.read.reply old a b text words
    (subst (λ (o : Outcome). FollowsRead end mode stamp nonce o.reply old text a) same h.rest) k.rest

one_relay : (called : List ℕ) (old a b : HubState) (text words : List ℕ) → IsRelayed called old text a → IsRelayed called old words b
    → (text ≡ words) × (a ≡ b)
one_relay called old a b text words h k =
    let same = one_relay_at _ called old.ends.hub.end.moment old.events _ h.after k.after text words h.relays k.relays in
    (same.0, h.leads ∙ ap (λ (s : Speaker). counted (record old { ends = record old.ends { hub = s } })) same.1 ∙ sym k.leads)

-- what a line does

one_acts : (doing : Doing) (old a b : HubState) (text words : List ℕ) → Acts doing old text a → Acts doing old words b → (text ≡ words) × (a ≡ b)
one_acts (Does on ask) old a b text words h k = one_makes on ask old a b text words h k
one_acts (Stops call pick on ask) old a b text words h k = one_stop call pick on ask old a b text words h k
one_acts (Relays called) old a b text words h k = one_relay called old a b text words h k
one_acts (Reopens end) old a b text words h k = (h.0 ∙ sym k.0, h.1 ∙ sym k.1)
one_acts (Says end told) old a b text words h k = (h.0 ∙ sym k.0, h.1 ∙ sym k.1)
one_acts Sets old a b text words h k = absurd h

one_plays : (l : Line) (doing : Doing) (old a b : HubState) (text words : List ℕ) → Plays l doing old text a → Plays l doing old words b
    → (text ≡ words) × (a ≡ b)
one_plays (line.Mode called on way retries period) doing old a b text words h k = (
  h.2 ∙ sym k.2,
  h.3 ∙ ap (λ (m : Mode). record old { modes = old.modes ++ m ∷ [] }) (one_mode on called way retries period h.0 k.0 h.1 k.1) ∙ sym k.3,
)
one_plays l doing old a b text words h k = one_acts doing old a b text words h k

pub one_transcript : (lines : List Line) (old a b : HubState) (text words : List ℕ) → PlaysAll lines old text a → PlaysAll lines old words b
    → (text ≡ words) × (a ≡ b)
one_transcript [] old a b text words h k = (h.0 ∙ sym k.0, h.1 ∙ sym k.1)
one_transcript (l ∷ lines) old a b text words h k =
    let first = one_plays l (doing_of old l) old h.0 k.0 h.1 k.1 h.5 k.5 in
    let rest = one_transcript lines k.0 a b h.2 k.2 (subst (λ (s : HubState). PlaysAll lines s h.2 a) first.1 h.6) k.6 in
    (h.7 ∙ ap (λ (t : List ℕ). t ++ h.2) first.0 ∙ ap (λ (t : List ℕ). k.1 ++ t) rest.0 ∙ sym k.7, rest.1)
