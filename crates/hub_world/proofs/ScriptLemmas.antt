-- What a line of a script asks for may pass in the chain.
use Rattle.std.proofs.Common.{◌≡◌, ℕ, zero, suc, inr, List, [], ◌∷◌, Bool, true, false, ◌&&◌, nat_le, if◌then◌else◌, Option, None, Some, length, refl, sym, ap, subst, arith}
use Rattle.std.specs.Prelude.{slice_get}
use Rattle.std.specs.List.{Contains}
use Rattle.std.proofs.lemmas.Bool.{and_parts}
use Rattle.std.proofs.lemmas.Option.{get_or_from_slice_get, slice_get_within}
use Rattle.as4_disk.specs.declared.change.Pick.{Pick}
use Rattle.as4_values.specs.declared.header.UserHeader.{UserHeader}
use Rattle.as4_values.specs.declared.message.Message.{Message}
use Rattle.as4_values.specs.declared.payload.Payload.{Payload}
use Rattle.mode_values.specs.declared.mode.Mode.{Mode}
use Rattle.drill_script.specs.LineText.{is_line, line_limit, line_text}
use Rattle.drill_script.specs.Scripts.{arrives_in_chain, is_chain_line, is_chain_run, is_of_chain, is_receiver, is_sender}
use Rattle.drill_script.specs.declared.line.EndName.{EndName}
use Rattle.drill_script.specs.declared.line.EndName.TheVariants as name
use Rattle.drill_script.specs.declared.line.Line.{Line}
use Rattle.drill_script.specs.declared.line.Line.TheVariants as line
use Rattle.drill_script.specs.declared.line.LinkName.{LinkName}
use Rattle.drill_script.specs.declared.line.LinkName.TheVariants as link
use Rattle.drill_script.specs.declared.line.ScriptLoad.{ScriptLoad}
use Rattle.drill_script.specs.declared.line.Stoppable.{Stoppable}
use Rattle.drill_script.specs.declared.line.Stoppable.TheVariants.{Submit, Tick, Take, Came, Confirm}
use Rattle.drill_world.specs.Endpoints.{EndpointState}
use Rattle.drill_world.specs.Relaying.{FollowsRead, RelaysAt}
use Rattle.drill_world.specs.Transcript.{is_in_order, stands}
use Rattle.exchange_model.specs.End.{End}
use Rattle.exchange_model.specs.Table.{Step}
use Rattle.exchange_model.specs.World.{Speaker, speaker_after}
use Rattle.exchange_model.specs.declared.event.Event.{Event}
use Rattle.exchange_model.specs.declared.outcome.Outcome.{Outcome}
use Rattle.exchange_model.specs.declared.reply.Reply.{Reply}
use Rattle.exchange_model.specs.declared.reply.Reply.TheVariants as reply
use Rattle.exchange_model.specs.declared.what.What.{What}
use Rattle.exchange_model.specs.declared.what.What.TheVariants as what
use Rattle.hub_laws.specs.Chain.{Relays as MayRelay, loads_of}
use Rattle.hub_world.specs.Ends.{Ends, chain_of, id_at, is_on, is_same_link, link_for, package_for, said_on, with_speaker}
use Rattle.hub_world.specs.Transcript.{Acts, Doing, Does, HubState, Plays, PlaysAll, Relays, Reopens, Says, Sets, Stops, arrives, comes, doing_of, has_mode, is_placed, is_right, relays, running_of, stopped, submits, tells}
use Rattle.hub_world.proofs.ChainLemmas.{Balanced, GoesOnce, IsMet, Leads, act_of, leads_nowhere, leads_on, makes_go, may_pass, passing_of, rests, stop_goes}

-- what is asked for is met
abbrev pub IsFit : Ends → Doing → Type 0
IsFit ends (Does on ask) = IsMet ask.end on ask.what ends
IsFit ends (Stops call pick on ask) = IsMet ask.end on ask.what ends
IsFit ends other = Unit {0}

-- a package that is found was heard

found_contained : {X : Type 0} (xs : List X) (n : ℕ) (x : X) → slice_get xs n ≡ Some x → Contains xs x
found_contained xs n x is = (n, slice_get_within xs n x is, get_or_from_slice_get xs n x x is)

contained_more : {X : Type 0} (x y : X) (xs : List X) → Contains xs y → Contains (x ∷ xs) y
contained_more x y xs is = (suc is.0, omega (arith, is.1), is.2)

contained_if : (t : Bool) (m n : Message) (ms : List Message) → Contains ms n → Contains (if t then m ∷ ms else ms) n
contained_if true m n ms is = contained_more m n ms is
contained_if false m n ms is = is

contained_first : (t : Bool) (m n : Message) (ms : List Message) → t ≡ true → Some m ≡ Some n → Contains (if t then m ∷ ms else ms) n
contained_first true m n ms holds is = found_contained (m ∷ ms) zero n is
contained_first false m n ms holds is = absurd cc

-- what was sent on a link, by its number among all
said_contains : (on : LinkName) (links : List LinkName) (said : List Message) (n : ℕ) (m : Message) → is_same_link on (slice_get links n) ≡ true
    → slice_get said n ≡ Some m → Contains (said_on on links said) m
said_contains link.Front [] said n m holds is = absurd cc
said_contains link.Rear [] said n m holds is = absurd cc
said_contains on (l ∷ links) [] n m holds is = absurd cc
said_contains on (l ∷ links) (k ∷ said) zero m holds is = contained_first (is_same_link on (Some l)) k m (said_on on links said) holds is
said_contains on (l ∷ links) (k ∷ said) (suc n) m holds is =
    contained_if (is_same_link on (Some l)) k m (said_on on links said) (said_contains on links said n m holds is)

-- a package of the hub, if it was sent on this link
hub_package : (t : Bool) (on : LinkName) (ends : Ends) (n : ℕ) (m : Message) → is_on on n ends ≡ t
    → (if t then slice_get ends.hub.said n else None) ≡ Some m → Contains (said_on on ends.links ends.hub.said) m
hub_package true on ends n m holds is = said_contains on ends.links ends.hub.said n m holds is
hub_package false on ends n m holds is = absurd cc

came_met : (end from : EndName) (n : ℕ) (m : Message) (ends : Ends) → is_of_chain end ≡ true → package_for end from n ends ≡ Some m
    → IsMet end (link_for end (Some from)) (what.Came m) ends
came_met name.Hub name.First n m ends holds is = record { fits = tt; heard = found_contained ends.first.said n m is; meets = tt }
came_met name.Hub name.Last n m ends holds is = record { fits = tt; heard = found_contained ends.last.said n m is; meets = tt }
came_met name.Hub from n m ends holds is = absurd cc
came_met name.First name.Hub n m ends holds is = record { fits = tt; heard = hub_package (is_on link.Front n ends) link.Front ends n m refl is; meets = tt }
came_met name.First from n m ends holds is = absurd cc
came_met name.Last name.Hub n m ends holds is = record { fits = tt; heard = hub_package (is_on link.Rear n ends) link.Rear ends n m refl is; meets = tt }
came_met name.Last from n m ends holds is = absurd cc
came_met end from n m ends holds is = absurd cc

comes_fit : (end from : EndName) (lost : Bool) (n : ℕ) (found : Option Message) (ends : Ends) → is_of_chain end ≡ true → package_for end from n ends ≡ found
    → IsFit ends (comes end from lost found)
comes_fit end from lost n None ends holds is = tt
comes_fit end from lost n (Some m) ends holds is = came_met end from n m ends holds is

arrives_fit : (end : EndName) (from : Option EndName) (lost : Bool) (n : ℕ) (ends : Ends) → arrives_in_chain end from ≡ true
    → IsFit ends (arrives end from lost n ends)
arrives_fit end None lost n ends holds = tt
arrives_fit end (Some from) lost n ends holds =
    comes_fit end from lost n (package_for end from n ends) ends (and_parts (is_of_chain end) (is_of_chain from) holds).0 refl

-- the endpoints that send, and those that receive

tick_met : (end : EndName) (ends : Ends) → is_of_chain end ≡ true → IsMet end (link_for end None) what.Tick ends
tick_met name.First ends holds = record { fits = tt; heard = tt; meets = tt }
tick_met name.Hub ends holds = record { fits = tt; heard = tt; meets = tt }
tick_met name.Last ends holds = record { fits = tt; heard = tt; meets = tt }
tick_met end ends holds = absurd cc

take_met : (end : EndName) (ends : Ends) → is_sender end ≡ true → IsMet end (link_for end None) what.Take ends
take_met name.First ends holds = record { fits = tt; heard = tt; meets = tt }
take_met name.Hub ends holds = record { fits = tt; heard = tt; meets = tt }
take_met end ends holds = absurd cc

status_met : (end : EndName) (id : List ℕ) (ends : Ends) → is_sender end ≡ true → IsMet end (link_for end None) (what.Status id) ends
status_met name.First id ends holds = record { fits = tt; heard = tt; meets = tt }
status_met name.Hub id ends holds = record { fits = tt; heard = tt; meets = tt }
status_met end id ends holds = absurd cc

confirm_met : (end : EndName) (n : ℕ) (ends : Ends) → is_receiver end ≡ true → IsMet end (link_for end None) (what.Confirm n) ends
confirm_met name.Hub n ends holds = record { fits = tt; heard = tt; meets = tt }
confirm_met name.Last n ends holds = record { fits = tt; heard = tt; meets = tt }
confirm_met end n ends holds = absurd cc

read_met : (end : EndName) (n : ℕ) (ends : Ends) → is_receiver end ≡ true → IsMet end (link_for end None) (what.Read n) ends
read_met name.Hub n ends holds = record { fits = tt; heard = tt; meets = tt }
read_met name.Last n ends holds = record { fits = tt; heard = tt; meets = tt }
read_met end n ends holds = absurd cc

submits_fit : (has : Bool) (called : List ℕ) (load : ScriptLoad) (ends : Ends) → IsFit ends (submits has called load)
submits_fit true called load ends = record { fits = tt; heard = tt; meets = tt }
submits_fit false called load ends = tt

relays_fit : (has : Bool) (called : List ℕ) (ends : Ends) → IsFit ends (relays has called)
relays_fit true called ends = tt
relays_fit false called ends = tt

tells_fit : (end : EndName) (n : ℕ) (found : Option (List ℕ)) (ends : Ends) → is_sender end ≡ true → IsFit ends (tells end n found)
tells_fit end n None ends holds = tt
tells_fit end n (Some id) ends holds = status_met end id ends holds

stopped_fits : (call : ℕ) (pick : Pick) (doing : Doing) (ends : Ends) → IsFit ends doing → IsFit ends (stopped call pick doing)
stopped_fits call pick (Does on ask) ends fits = fits
stopped_fits call pick (Stops c p on ask) ends fits = fits
stopped_fits call pick (Relays called) ends fits = tt
stopped_fits call pick (Reopens end) ends fits = tt
stopped_fits call pick (Says end words) ends fits = tt
stopped_fits call pick Sets ends fits = tt

running_fits : (l : Stoppable) (state : HubState) → is_chain_run l ≡ true → IsFit state.ends (running_of state l)
unfolding running_of
running_fits (Submit end called load) state holds = submits_fit (has_mode link.Front called state.modes) called load state.ends
running_fits (Tick end moment) state holds = tick_met end state.ends holds
running_fits (Take end) state holds = take_met end state.ends holds
running_fits (Came end from number) state holds = arrives_fit end from false number state.ends holds
running_fits (Confirm end number) state holds = confirm_met end number state.ends holds

pub doing_fits : (l : Line) (state : HubState) → is_chain_line l ≡ true → IsFit state.ends (doing_of state l)
unfolding doing_of is_chain_line
doing_fits (line.Mode called on way retries period) state holds = tt
doing_fits (line.Run l) state holds = running_fits l state holds
doing_fits (line.Ask end called) state holds = record { fits = tt; heard = tt; meets = tt }
doing_fits (line.Pair end called number) state holds = tt
doing_fits (line.Relay end called) state holds = relays_fit (has_mode link.Rear called state.modes) called state.ends
doing_fits (line.Lost end from number) state holds = arrives_fit end from true number state.ends holds
doing_fits (line.Read end number) state holds = read_met end number state.ends holds
doing_fits (line.Status end number) state holds = tells_fit end number (id_at end number state.ends) state.ends holds
doing_fits (line.Crash end) state holds = tt
doing_fits (line.Stop call pick l) state holds = stopped_fits call pick (running_of state l) state.ends (running_fits l state holds)
doing_fits (line.Fold end) state holds = tt

-- a relaying

-- the law of what is read
abbrev pub ReadIsRelayed : Type 0
ReadIsRelayed = (modes : List Mode) (hub : End) (event : Event) (outcome : Outcome) (header : UserHeader) (payloads : List Payload)
    → Step modes hub event outcome → event.what ≡ what.Read (length hub.sent) → outcome.reply ≡ reply.Entry header payloads
    → MayRelay hub header.conversation (loads_of payloads)

-- an endpoint in the hub's place
abbrev hub_with : EndpointState → Ends → Ends
hub_with after ends = with_speaker name.Hub after.speaker ends

still : (after : EndpointState) (ends : Ends) → after.speaker ≡ ends.hub → hub_with after ends ≡ ends
still after ends same = ap (λ (s : Speaker). record ends { hub = s }) same

-- the hub with these modes
abbrev hub_of : Ends → List Mode → EndpointState
hub_of ends modes = record { speaker = ends.hub; modes = modes }

relay_goes : ReadIsRelayed → (called : List ℕ) (stamp nonce : ℕ) (ends : Ends) (modes : List Mode) (text : List ℕ) (after : EndpointState) → Balanced ends
    → RelaysAt name.Hub called stamp nonce (hub_of ends modes) text after
    → GoesOnce ends (hub_with after ends)
relay_goes law called stamp nonce ends modes text after balanced is = by_reply is.read.reply refl is.rest
  where
    by_reply : (r : Reply) → is.read.reply ≡ r → FollowsRead name.Hub called stamp nonce r (hub_of ends modes) text after → GoesOnce ends (hub_with after ends)
    by_reply (reply.Entry header payloads) told submits =
        let may = law modes ends.hub.end is.steps.event is.read header payloads is.steps.step is.steps.does told in
        let leads : hub_with after ends ≡ record ends { hub = speaker_after submits.outcome true ends.hub } =
        ap (λ (s : Speaker). record ends { hub = s }) submits.leads in
        let asked : IsMet name.Hub link.Rear submits.steps.event.what ends =
        subst (λ (w : What). IsMet name.Hub link.Rear w ends) (sym submits.steps.does) (record { fits = tt; heard = tt; meets = may }) in
        record {
          passes = inr (record {
            one = passing_of link.Rear (act_of name.Hub link.Rear modes submits.steps.event submits.outcome true);
            may = may_pass name.Hub link.Rear ends modes submits.steps.event submits.outcome true asked submits.steps.step;
            leads = ap chain_of leads;
          });
          balanced = subst Balanced (sym leads) balanced;
        }
    by_reply reply.NoEntry told rest = rests ends (hub_with after ends) (still after ends rest.1) balanced
    by_reply reply.Gone told rest = rests ends (hub_with after ends) (still after ends rest.1) balanced
    by_reply other told never = absurd never

-- a line leads on

acts_go : ReadIsRelayed → (doing : Doing) (old new : HubState) (text : List ℕ) → IsFit old.ends doing → Balanced old.ends → Acts doing old text new
    → GoesOnce old.ends new.ends
acts_go law (Does on ask) old new text fits balanced makes =
    makes_go ask.end on old.ends new.ends old.modes makes.event makes.outcome ask.lost balanced
    (subst (λ (w : What). IsMet ask.end on w old.ends) (sym makes.is.does) fits) makes.step (ap (λ (s : HubState). s.ends) makes.leads)
acts_go law (Stops call pick on ask) old new text fits balanced stops =
    stop_goes ask.end on old.ends new.ends old.modes stops.event stops.outcome (stands call pick) balanced
    (subst (λ (w : What). IsMet ask.end on w old.ends) (sym stops.is.does) fits) stops.step (ap (λ (s : HubState). s.ends) stops.leads)
acts_go law (Relays called) old new text fits balanced relays =
    subst (GoesOnce old.ends) (sym (ap (λ (s : HubState). s.ends) relays.leads))
    (relay_goes law called old.ends.hub.end.moment old.events old.ends old.modes text relays.after balanced relays.relays)
acts_go law (Reopens end) old new text fits balanced reopens = rests old.ends new.ends (ap (λ (s : HubState). s.ends) reopens.1) balanced
acts_go law (Says end words) old new text fits balanced says = rests old.ends new.ends (ap (λ (s : HubState). s.ends) says.1) balanced
acts_go law Sets old new text fits balanced never = absurd never

line_goes : ReadIsRelayed → (l : Line) (doing : Doing) (old new : HubState) (text : List ℕ) → IsFit old.ends doing → Balanced old.ends
    → Plays l doing old text new → GoesOnce old.ends new.ends
line_goes law (line.Mode called on way retries period) doing old new text fits balanced plays =
    rests old.ends new.ends (ap (λ (s : HubState). s.ends) plays.3) balanced
line_goes law l doing old new text fits balanced plays = acts_go law doing old new text fits balanced plays

-- a right line is one of a chain
right_of_chain : (l : Line) (state : HubState) → is_right l state ≡ true → is_chain_line l ≡ true
right_of_chain l state right =
    let first = and_parts (is_line l) (nat_le (length (line_text l)) line_limit && is_placed l state) right in
    let second = and_parts (nat_le (length (line_text l)) line_limit) (is_placed l state) first.1 in
    (and_parts (is_chain_line l) (is_in_order l state.modes state.begun) second.1).0

-- lines lead on, one after another
pub lines_lead : ReadIsRelayed → (lines : List Line) (old new : HubState) (text : List ℕ) → Balanced old.ends → PlaysAll lines old text new
    → Leads old.ends new.ends
lines_lead law [] old new text balanced plays = leads_nowhere old.ends new.ends (ap (λ (s : HubState). s.ends) plays.1)
lines_lead law (l ∷ lines) old new text balanced plays =
    let goes = line_goes law l (doing_of old l) old plays.0 plays.1 (doing_fits l old (right_of_chain l old plays.3)) balanced plays.5 in
    leads_on old.ends plays.0.ends new.ends goes (lines_lead law lines plays.0 new plays.2 goes.balanced plays.6)
