-- A script has one transcript: what each of its lines writes and leads to is told by the line and the state.
use Rattle.std.proofs.Common.{◌≡◌, ℕ, ◌+◌, inl, inr, List, [], ◌∷◌, ◌++◌, Bool, true, if◌then◌else◌, Option, length, sym, ap, ◌∙◌, subst, codes, arith}
use Rattle.std.specs.Prelude.{IsTrue}
use Rattle.std.proofs.Props.{props}
use Rattle.as4_effects.proofs.PartLemmas.{side_told}
use Rattle.as4_effects.specs.Parts.{side_parts}
use Rattle.mode_values.specs.ModeRanges.{is_mode_name, is_short, is_short_side, is_short_service, is_mode_agreement, is_mode_route, may_collect, IsRetries, IsPeriod}
use Rattle.as4_values.specs.declared.header.Agreement.{Agreement}
use Rattle.as4_values.specs.declared.header.Service.{Service}
use Rattle.as4_values.specs.declared.header.Side.{Side}
use Rattle.mode_values.specs.declared.mode.Mode.{Mode}
use Rattle.as4_values.specs.declared.route.Route.{Route}
use Rattle.as4_disk.specs.declared.change.Pick.{Pick}
use Rattle.carrier.proofs.EventLemmas.{event_told}
use Rattle.drill_world.specs.Endpoints.{MatchFold}
use Rattle.drill_world.specs.Events.{Asked, Doing, Sets, Does, Stops, Reopens, Folds, Says, site_of}
use Rattle.drill_world.specs.Transcript.{IsActOf, IsFoldAt, IsStopped, Makes, Plays, PlaysAll, DrillState, doing_of, stands}
use Rattle.drill_script.specs.declared.line.EndName.{EndName}
use Rattle.drill_script.specs.declared.line.Line.{Line}
use Rattle.drill_script.specs.declared.line.Line.TheVariants as line
use Rattle.drill_script.specs.declared.line.LinkName.{LinkName}
use Rattle.drill_script.specs.declared.line.Way.{Way}
use Rattle.drill_texts.specs.Modes.{IsDrillMode, IsDrillSide, receiver_of, sender_of}
use Rattle.drill_texts.specs.Texts.{said_line, reply_text}
use Rattle.exchange_model.specs.Table.{Step}
use Rattle.exchange_model.specs.World.{Act, Left, MayHappenAt, Right, Site, World, folded_at, speaker_after, speaker_at, world_at}
use Rattle.exchange_model.specs.declared.event.Event.{Event}
use Rattle.exchange_model.specs.declared.outcome.Outcome.{Outcome}
use Rattle.msh_core.proofs.FoldSizeLemmas.{one_size}
use Rattle.outcome_laws.proofs.OneOutcome.{one_outcome}

-- a mode is told by its line

record ModeParts : Type 0 where
  name : List ℕ
  from : Side
  to : Side
  service : Service
  action : List ℕ
  agreement : Option Agreement
  route : Route
  retries : ℕ
  period : ℕ
  collect : Bool

record IsMode (t : ModeParts) : Type 0 where
  named : IsTrue (is_mode_name t.name)
  from_short : IsTrue (is_short_side t.from.parties t.from.role)
  to_short : IsTrue (is_short_side t.to.parties t.to.role)
  service_short : IsTrue (is_short_service t.service)
  action_short : IsTrue (is_short t.action)
  agreed : IsTrue (is_mode_agreement t.agreement)
  routed : IsTrue (is_mode_route t.route)
  limited : IsRetries t.retries
  timed : IsPeriod t.period
  collects : IsTrue (may_collect t.route t.collect)

mode_of : (t : ModeParts) → IsMode t → Mode
mode_of t is = record {
  name = t.name;
  from = t.from;
  to = t.to;
  service = t.service;
  action = t.action;
  agreement = t.agreement;
  route = t.route;
  retries = t.retries;
  period = t.period;
  collect = t.collect;
  named = is.named;
  from_short = is.from_short;
  to_short = is.to_short;
  service_short = is.service_short;
  action_short = is.action_short;
  agreed = is.agreed;
  routed = is.routed;
  limited = is.limited;
  timed = is.timed;
  collects = is.collects;
}

abbrev mode_parts : Mode → ModeParts
mode_parts m = record {
  name = m.name;
  from = m.from;
  to = m.to;
  service = m.service;
  action = m.action;
  agreement = m.agreement;
  route = m.route;
  retries = m.retries;
  period = m.period;
  collect = m.collect;
}

whole_of : (m : Mode) → IsMode (mode_parts m)
whole_of m = record {
  named = m.named;
  from_short = m.from_short;
  to_short = m.to_short;
  service_short = m.service_short;
  action_short = m.action_short;
  agreed = m.agreed;
  routed = m.routed;
  limited = m.limited;
  timed = m.timed;
  collects = m.collects;
}

one_whole : (t : ModeParts) → IsProp (IsMode t)
one_whole t = hlevel props

mode_told : (a b : Mode) → mode_parts a ≡ mode_parts b → a ≡ b
unfolding mode_of whole_of
mode_told a b e =
    subst (λ (t : ModeParts). (w : IsMode t) → mode_of t w ≡ b) (sym e)
    (λ w. ap (mode_of (mode_parts b)) (one_whole (mode_parts b) w (whole_of b)))
    (whole_of a)

one_side : (id role : List ℕ) (a b : Side) → IsDrillSide id role a → IsDrillSide id role b → a ≡ b
one_side id role a b h k =
    side_told a b (let same : side_parts a ≡ side_parts b = λ i. ((h.party ∙ sym k.party) i, (h.plays ∙ sym k.plays) i) in same)

pub one_mode : (link : Option LinkName) (name : List ℕ) (way : Way) (retries period : ℕ) (a b : Mode) → IsDrillMode link name way retries period a
    → IsDrillMode link name way retries period b → a ≡ b
one_mode link name way retries period a b h k = mode_told a b (λ i. record {
  name = (h.named ∙ sym k.named) i;
  from = one_side (sender_of link) (codes "sender") a.from b.from h.from k.from i;
  to = one_side (receiver_of link) (codes "receiver") a.to b.to h.to k.to i;
  service = (h.service ∙ sym k.service) i;
  action = (h.action ∙ sym k.action) i;
  agreement = (h.agreement ∙ sym k.agreement) i;
  route = (h.route ∙ sym k.route) i;
  retries = (h.retries ∙ sym k.retries) i;
  period = (h.period ∙ sym k.period) i;
  collect = (h.collect ∙ sym k.collect) i;
})

-- what is done at an end

step_at : (site : Site) (act : Act) (world : World) → MayHappenAt site act world
    → Step act.modes (speaker_at site world).end act.event act.outcome
step_at Left act world may = may.step
step_at Right act world may = may.step

one_world : (site : Site) (a b : Act) (world : World) → a.outcome ≡ b.outcome → a.lost ≡ b.lost → world_at site a world ≡ world_at site b world
one_world Left a b world outcomes losses = λ i. record { left = speaker_after (outcomes i) (losses i) world.left; right = world.right }
one_world Right a b world outcomes losses = λ i. record { left = world.left; right = speaker_after (outcomes i) (losses i) world.right }

-- the act of an event has one outcome
one_act : (ask : Asked) (lost : Bool) (old : DrillState) (a b : Act) → IsActOf ask lost old a → IsActOf ask lost old b → a.outcome ≡ b.outcome
one_act ask lost old a b h k =
    let events : a.event ≡ b.event = event_told a.event b.event (h.stamp ∙ sym k.stamp) (h.nonce ∙ sym k.nonce) (h.does ∙ sym k.does) in
    let first : Step old.modes (speaker_at (site_of ask.end) old.world).end b.event a.outcome =
    subst (λ (e : Event). Step old.modes (speaker_at (site_of ask.end) old.world).end e a.outcome) events
    (subst (λ (m : List Mode). Step m (speaker_at (site_of ask.end) old.world).end a.event a.outcome) h.modes (step_at (site_of ask.end) a old.world h.may)) in
    let next : Step old.modes (speaker_at (site_of ask.end) old.world).end b.event b.outcome =
    subst (λ (m : List Mode). Step m (speaker_at (site_of ask.end) old.world).end b.event b.outcome) k.modes (step_at (site_of ask.end) b old.world k.may) in
    one_outcome old.modes (speaker_at (site_of ask.end) old.world).end b.event a.outcome b.outcome first next

one_act_world : (ask : Asked) (lost : Bool) (old : DrillState) (a b : Act) → IsActOf ask lost old a → IsActOf ask lost old b
    → world_at (site_of ask.end) a old.world ≡ world_at (site_of ask.end) b old.world
one_act_world ask lost old a b h k = one_world (site_of ask.end) a b old.world (one_act ask lost old a b h k) (h.lost ∙ sym k.lost)

one_makes : (ask : Asked) (old a b : DrillState) (text words : List ℕ) → Makes ask old text a → Makes ask old words b → (text ≡ words) × (a ≡ b)
one_makes ask old a b text words h k = (
  h.says
      ∙ ap (λ (o : Outcome). said_line ask.end (reply_text ask.number ask.lost (length (speaker_at (site_of ask.end) old.world).said) o.reply))
      (one_act ask ask.lost old h.act k.act h.is k.is)
      ∙ sym k.says,
  h.leads
      ∙ ap (λ (w : World). record { world = w; modes = old.modes; events = old.events + 1; begun = true }) (one_act_world ask ask.lost old h.act k.act h.is k.is)
      ∙ sym k.leads,
)

one_stop : (call : ℕ) (pick : Pick) (ask : Asked) (old a b : DrillState) (text words : List ℕ) → IsStopped call pick ask old text a
    → IsStopped call pick ask old words b → (text ≡ words) × (a ≡ b)
one_stop call pick ask old a b text words h k = (
  h.says ∙ sym k.says,
  h.leads
      ∙ ap (λ (w : World). record { world = if stands call pick then w else old.world; modes = old.modes; events = old.events + 1; begun = true })
      (one_act_world ask true old h.act k.act h.is k.is)
      ∙ sym k.leads,
)

-- a journal is folded to one size, or to none
one_folded : (site : Site) (old a b : World) → MatchFold (speaker_at site old).end (λ size. a ≡ folded_at site size old) (a ≡ old)
    → MatchFold (speaker_at site old).end (λ size. b ≡ folded_at site size old) (b ≡ old) → a ≡ b
one_folded site old a b (inl h) (inl k) =
    h.3 ∙ ap (λ (size : ℕ). folded_at site size old) (one_size (speaker_at site old).end h.0 k.0 h.1 k.1) ∙ sym k.3
one_folded site old a b (inl h) (inr k) = absurd (omega (arith, h.2, k.0 h.0 h.1))
one_folded site old a b (inr h) (inl k) = absurd (omega (arith, k.2, h.0 k.0 k.1))
one_folded site old a b (inr h) (inr k) = h.1 ∙ sym k.1

one_fold_at : (end : EndName) (old a b : DrillState) (text words : List ℕ) → IsFoldAt end old text a → IsFoldAt end old words b → (text ≡ words) × (a ≡ b)
one_fold_at end old a b text words h k = (
  h.says ∙ sym k.says,
  h.leads
      ∙ ap (λ (w : World). record { world = w; modes = old.modes; events = old.events; begun = true }) (one_folded (site_of end) old.world h.world k.world h.folds k.folds)
      ∙ sym k.leads,
)

-- what a line does

one_plays : (l : Line) (doing : Doing) (old a b : DrillState) (text words : List ℕ) → Plays l doing old text a → Plays l doing old words b
    → (text ≡ words) × (a ≡ b)
one_plays (line.Mode name link way retries period) doing old a b text words h k = (
  h.2 ∙ sym k.2,
  h.3 ∙ ap (λ (m : Mode). record old { modes = old.modes ++ m ∷ [] }) (one_mode link name way retries period h.0 k.0 h.1 k.1) ∙ sym k.3,
)
one_plays l (Does ask) old a b text words h k = one_makes ask old a b text words h k
one_plays l (Stops call pick ask) old a b text words h k = one_stop call pick ask old a b text words h k
one_plays l (Reopens end) old a b text words h k = (h.0 ∙ sym k.0, h.1 ∙ sym k.1)
one_plays l (Folds end) old a b text words h k = one_fold_at end old a b text words h k
one_plays l (Says end told) old a b text words h k = (h.0 ∙ sym k.0, h.1 ∙ sym k.1)
one_plays l Sets old a b text words h k = absurd h

pub one_transcript : (lines : List Line) (old a b : DrillState) (text words : List ℕ) → PlaysAll lines old text a → PlaysAll lines old words b
    → (text ≡ words) × (a ≡ b)
one_transcript [] old a b text words h k = (h.0 ∙ sym k.0, h.1 ∙ sym k.1)
one_transcript (l ∷ lines) old a b text words h k =
    let first = one_plays l (doing_of old.world l) old h.0 k.0 h.1 k.1 h.5 k.5 in
    let rest = one_transcript lines k.0 a b h.2 k.2 (subst (λ (s : DrillState). PlaysAll lines s h.2 a) first.1 h.6) k.6 in
    (h.7 ∙ ap (λ (t : List ℕ). t ++ h.2) first.0 ∙ ap (λ (t : List ℕ). k.1 ++ t) rest.0 ∙ sym k.7, rest.1)
