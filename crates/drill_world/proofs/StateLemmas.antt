-- What happens at one end of a drill is what its line asks for.
use Rattle.std.proofs.Common.{◌≡◌, ◌≢◌, ℕ, ◌+◌, List, [], ◌∷◌, ◌++◌, Bool, true, false, ◌&&◌, if◌then◌else◌, nat_le, inl, inr, refl, sym, ◌∙◌, ap, subst, codes}
use Rattle.std.specs.Prelude.{◌<◌, ◌≤◌, nat_lt, Option, Ok, Err, IfOk, IsErrAnd, IsTrue, OnOk, Result, length}
use Rattle.std.specs.List.{list_any}
use Rattle.std.specs.Str.{bytes_eq}
use Rattle.std.specs.Option.{unwrap_or}
use Rattle.std.proofs.lemmas.Bool.{and_parts, le-leb, leb-true, lt-ltb}
use Rattle.as4_disk.specs.declared.change.Pick.{Pick}
use Rattle.mode_values.specs.declared.mode.Mode.{Mode}
use Rattle.drill_world.specs.Events.{Asked, Doing, Sets, Does, Stops, Reopens, Folds, Says, site_of}
use Rattle.drill_world.specs.Endpoints.{EndpointState, FoldsTo, IsStoppedAt, MatchFold, Meets}
use Rattle.drill_world.specs.States.{IsAtEnd, Performs, endpoint_at, world_with}
use Rattle.drill_world.specs.Transcript.{Acts, IsActOf, IsFoldAt, IsStopped, Makes, Plays, DrillState, doing_of, is_full_for, is_in_order, is_placed, is_right, is_too_many, may_be_named, stands}
use Rattle.drill_world.specs.declared.refused.Refused.{Refused}
use Rattle.drill_world.specs.declared.refused.Refused.TheVariants as refused
use Rattle.drill_script.specs.LineText.{is_line, is_name, line_limit, line_text}
use Rattle.drill_script.specs.declared.line.EndName.{EndName}
use Rattle.drill_script.specs.declared.line.EndName.TheVariants as name
use Rattle.drill_script.specs.declared.line.Line.{Line}
use Rattle.drill_script.specs.declared.line.Line.TheVariants as line
use Rattle.drill_script.specs.Scripts.{is_pair_line}
use Rattle.drill_script.specs.declared.line.LinkName.{LinkName}
use Rattle.drill_script.specs.declared.line.Way.{Way}
use Rattle.drill_texts.specs.Modes.{IsDrillMode}
use Rattle.drill_texts.specs.Texts.{said_line}
use Rattle.exchange_model.specs.Table.{Step}
use Rattle.exchange_model.specs.World.{Act, IsHeard, Left, MayHappenAt, Speaker, Right, Site, World, across, acted, folded, folded_at, speaker_at, world_at}
use Rattle.exchange_model.specs.declared.event.Event.{Event}
use Rattle.exchange_model.specs.declared.outcome.Outcome.{Outcome}

-- a state by its parts
abbrev pub state_of : EndpointState → EndpointState → List Mode → ℕ → Bool → DrillState
state_of left right modes events begun =
    record { world = record { left = left.speaker; right = right.speaker }; modes = modes; events = events; begun = begun }

-- the end of a name, and the state where that is another

pub left_is : (at : EndName) (left right : EndpointState) (modes : List Mode) (events : ℕ) (begun : Bool) (state : DrillState) → at ≡ name.A
    → state_of left right modes events begun ≡ state → left.modes ≡ modes → left ≡ endpoint_at (site_of at) state
left_is at left right modes events begun state here seen shared = rw (here, ← seen) (λ i. record { speaker = left.speaker; modes = shared i })

pub left_put : (at : EndName) (left right new : EndpointState) (modes : List Mode) (events : ℕ) (begun : Bool) (state : DrillState) → at ≡ name.A
    → state_of left right modes events begun ≡ state
    → state_of new right modes events begun ≡ record state { world = world_with (site_of at) new.speaker state.world }
left_put at left right new modes events begun state here seen = rw (here, ← seen) refl

-- each name but a is that of the right end
pub right_site : (at : EndName) → (at ≡ name.A → ⊥) → site_of at ≡ Right
right_site name.A other = absurd (other refl)
right_site at other = refl

pub right_is : (at : EndName) (left right : EndpointState) (modes : List Mode) (events : ℕ) (begun : Bool) (state : DrillState) → site_of at ≡ Right
    → state_of left right modes events begun ≡ state → right.modes ≡ modes → right ≡ endpoint_at (site_of at) state
right_is at left right modes events begun state here seen shared = rw (here, ← seen) (λ i. record { speaker = right.speaker; modes = shared i })

pub right_put : (at : EndName) (left right new : EndpointState) (modes : List Mode) (events : ℕ) (begun : Bool) (state : DrillState) → site_of at ≡ Right
    → state_of left right modes events begun ≡ state
    → state_of left new modes events begun ≡ record state { world = world_with (site_of at) new.speaker state.world }
right_put at left right new modes events begun state here seen = rw (here, ← seen) refl

-- a line of this moment asks for the event
abbrev pub asks_for : EndName → Event → Option ℕ → Bool → ℕ → Asked
asks_for at event moment lost number = record { end = at; what = event.what; moment = moment; lost = lost; number = number }

-- a speaker in the place of another

put_twice : (site : Site) (a b : Speaker) (world : World) → world_with site a (world_with site b world) ≡ world_with site a world
put_twice Left a b world = refl
put_twice Right a b world = refl

put_same : (site : Site) (world : World) → world_with site (speaker_at site world) world ≡ world
put_same Left world = refl
put_same Right world = refl

put_acted : (site : Site) (act : Act) (world : World) → world_with site (acted act (speaker_at site world)) world ≡ world_at site act world
put_acted Left act world = refl
put_acted Right act world = refl

put_folded : (site : Site) (size : ℕ) (world : World) → world_with site (folded size (speaker_at site world)) world ≡ folded_at site size world
put_folded Left size world = refl
put_folded Right size world = refl

-- the first one again
pub put_back : (site : Site) (spare speaker : Speaker) (old mid new : DrillState) → speaker ≡ speaker_at site old.world
    → mid ≡ record old { world = world_with site spare old.world } → new ≡ record mid { world = world_with site speaker mid.world } → new ≡ old
put_back site spare speaker old mid new same out put =
    put ∙ ap (λ (s : DrillState). record s { world = world_with site speaker s.world }) out
    ∙ ap (λ (w : World). record old { world = w })
    (put_twice site speaker spare old.world ∙ ap (λ (p : Speaker). world_with site p old.world) same ∙ put_same site old.world)

put_stood : (site : Site) (act : Act) (stood : Bool) (speaker : Speaker) (world : World)
    → speaker ≡ (if stood then acted act (speaker_at site world) else speaker_at site world)
    → world_with site speaker world ≡ (if stood then world_at site act world else world)
put_stood site act true speaker world is = ap (λ (p : Speaker). world_with site p world) is ∙ put_acted site act world
put_stood site act false speaker world is = ap (λ (p : Speaker). world_with site p world) is ∙ put_same site world

-- an event at an end

may_at : (site : Site) (act : Act) (world : World) → IsHeard (speaker_at (across site) world).said act.event.what
    → Step act.modes (speaker_at site world).end act.event act.outcome → MayHappenAt site act world
may_at Left act world heard step = record { heard = heard; step = step }
may_at Right act world heard step = record { heard = heard; step = step }

-- it is the next of all, and what comes was sent
pub record IsNextAt (at : EndName) (event : Event) (moment : Option ℕ) (state : DrillState) : Type 0 where
  pub begun : state.begun ≡ true
  pub nonce : event.nonce ≡ state.events
  pub heard : IsHeard (speaker_at (across (site_of at)) state.world).said event.what
  pub stamp : event.stamp ≡ unwrap_or moment (speaker_at (site_of at) state.world).end.moment

-- its act, with this outcome
abbrev act_of : EndName → Event → Bool → Outcome → DrillState → Act
act_of at event lost outcome state = record { site = site_of at; modes = state.modes; event = event; outcome = outcome; lost = lost }

is_act : (at : EndName) (event : Event) (moment : Option ℕ) (number : ℕ) (lost loses : Bool) (outcome : Outcome) (state : DrillState)
    → IsNextAt at event moment state → Step state.modes (speaker_at (site_of at) state.world).end event outcome
    → IsActOf (asks_for at event moment lost number) loses state (act_of at event loses outcome state)
is_act at event moment number lost loses outcome state next step = record {
  at = refl;
  modes = refl;
  does = refl;
  stamp = next.stamp;
  nonce = next.nonce;
  lost = refl;
  may = may_at (site_of at) (act_of at event loses outcome state) state.world next.heard step;
}

put_makes : (at : EndName) (event : Event) (moment : Option ℕ) (number : ℕ) (lost : Bool) (is : EndpointState) (old new : DrillState) (text : List ℕ)
    → IsNextAt at event moment old → Meets at event number lost (endpoint_at (site_of at) old) text is
    → new ≡ record old { world = world_with (site_of at) is.speaker old.world; events = old.events + 1 }
    → Makes (asks_for at event moment lost number) old text new
put_makes at event moment number lost is old new text next meets put =
    let act : Act = act_of at event lost meets.outcome old in
    let world : world_with (site_of at) is.speaker old.world ≡ world_at (site_of at) act old.world =
    ap (λ (p : Speaker). world_with (site_of at) p old.world) meets.leads ∙ put_acted (site_of at) act old.world in
    record {
      act = act;
      is = is_act at event moment number lost lost meets.outcome old next meets.step;
      says = meets.says;
      leads = put ∙ (λ i. record { world = world i; modes = old.modes; events = old.events + 1; begun = next.begun i });
    }

pub met_makes : {E : Type 0} (at : EndName) (event : Event) (number : ℕ) (lost : Bool) (was is : EndpointState) (result : Result (List ℕ) E)
    (old counted new : DrillState) → counted ≡ record old { events = old.events + 1 } → was ≡ endpoint_at (site_of at) counted
    → new ≡ record counted { world = world_with (site_of at) is.speaker counted.world } → old.begun ≡ true → event.nonce ≡ old.events
    → IsHeard (speaker_at (across (site_of at)) old.world).said event.what → IfOk result (λ text. Meets at event number lost was text is)
    → IfOk result (λ text. (moment : Option ℕ) → event.stamp ≡ unwrap_or moment (speaker_at (site_of at) old.world).end.moment
    → Makes (asks_for at event moment lost number) old text new)
met_makes at event number lost was is (Ok text) old counted new counts here put begun nonce heard meets = λ moment stamp.
    put_makes at event moment number lost is old new text (record { begun = begun; nonce = nonce; heard = heard; stamp = stamp })
    (subst (λ (e : EndpointState). Meets at event number lost e text is) (here ∙ ap (endpoint_at (site_of at)) counts) meets)
    (put ∙ ap (λ (s : DrillState). record s { world = world_with (site_of at) is.speaker s.world }) counts)
met_makes at event number lost was is (Err error) old counted new counts here put begun nonce heard meets = tt

put_stops : (call : ℕ) (pick : Pick) (at : EndName) (event : Event) (moment : Option ℕ) (number : ℕ) (lost : Bool) (spare : Speaker) (is : EndpointState)
    (old new : DrillState) (text : List ℕ) → IsNextAt at event moment old → IsStoppedAt event (stands call pick) (endpoint_at (site_of at) old) is
    → text ≡ said_line at (codes "reopened")
    → new ≡ record old { world = world_with (site_of at) is.speaker (world_with (site_of at) spare old.world); events = old.events + 1 }
    → IsStopped call pick (asks_for at event moment lost number) old text new
put_stops call pick at event moment number lost spare is old new text next stops says put =
    let act : Act = act_of at event true stops.outcome old in
    let world : world_with (site_of at) is.speaker (world_with (site_of at) spare old.world)
    ≡ (if stands call pick then world_at (site_of at) act old.world else old.world) =
    put_twice (site_of at) is.speaker spare old.world ∙ put_stood (site_of at) act (stands call pick) is.speaker old.world stops.leads in
    record {
      act = act;
      is = is_act at event moment number lost true stops.outcome old next stops.step;
      says = says;
      leads = put ∙ (λ i. record { world = world i; modes = old.modes; events = old.events + 1; begun = next.begun i });
    }

pub met_stops : {E : Type 0} (call : ℕ) (pick : Pick) (at : EndName) (event : Event) (was is : EndpointState) (spare : Speaker) (result : Result (List ℕ) E)
    (old counted mid new : DrillState) → counted ≡ record old { events = old.events + 1 } → was ≡ endpoint_at (site_of at) counted
    → mid ≡ record counted { world = world_with (site_of at) spare counted.world } → new ≡ record mid { world = world_with (site_of at) is.speaker mid.world }
    → old.begun ≡ true → event.nonce ≡ old.events → IsHeard (speaker_at (across (site_of at)) old.world).said event.what
    → IsStoppedAt event (stands call pick) was is → IfOk result (λ text. text ≡ said_line at (codes "reopened"))
    → IfOk result (λ text. (moment : Option ℕ) (lost : Bool) (number : ℕ)
    → event.stamp ≡ unwrap_or moment (speaker_at (site_of at) old.world).end.moment → IsStopped call pick (asks_for at event moment lost number) old text new)
met_stops call pick at event was is spare (Ok text) old counted mid new counts here out put begun nonce heard stops says = λ moment lost number stamp.
    put_stops call pick at event moment number lost spare is old new text (record { begun = begun; nonce = nonce; heard = heard; stamp = stamp })
    (subst (λ (e : EndpointState). IsStoppedAt event (stands call pick) e is) (here ∙ ap (endpoint_at (site_of at)) counts) stops) says
    (put ∙ ap (λ (s : DrillState). record s { world = world_with (site_of at) is.speaker s.world })
    (out ∙ ap (λ (s : DrillState). record s { world = world_with (site_of at) spare s.world }) counts))
met_stops call pick at event was is spare (Err error) old counted mid new counts here out put begun nonce heard stops says = tt

-- a journal is folded

-- the journal of the end at a name has become shorter, or stays
abbrev pub FoldsHere : EndName → DrillState → DrillState → Type 0
FoldsHere at old new =
    MatchFold (speaker_at (site_of at) old.world).end (λ size. new ≡ record old { world = folded_at (site_of at) size old.world }) (new ≡ old)

folds_here : (at : EndName) (is : EndpointState) (old new : DrillState) → new ≡ record old { world = world_with (site_of at) is.speaker old.world }
    → FoldsTo (endpoint_at (site_of at) old) is → FoldsHere at old new
folds_here at is old new put (inl shorter) = inl (
  shorter.0,
  shorter.1,
  shorter.2,
  put ∙ ap (λ (w : World). record old { world = w })
      (ap (λ (p : Speaker). world_with (site_of at) p old.world) shorter.3 ∙ put_folded (site_of at) shorter.0 old.world),
)
folds_here at is old new put (inr least) = inr (
  least.0,
  put ∙ ap (λ (w : World). record old { world = w })
      (ap (λ (p : Speaker). world_with (site_of at) p old.world) least.1 ∙ put_same (site_of at) old.world),
)

pub put_folds : {T E : Type 0} (at : EndName) (was is : EndpointState) (result : Result T E) (old new : DrillState) → was ≡ endpoint_at (site_of at) old
    → new ≡ record old { world = world_with (site_of at) is.speaker old.world } → OnOk result (FoldsTo was is) → OnOk result (FoldsHere at old new)
put_folds at was is (Ok done) old new here put folds = folds_here at is old new put (subst (λ (e : EndpointState). FoldsTo e is) here folds)
put_folds at was is (Err error) old new here put folds = tt

pub folds_at : (at : EndName) (old new : DrillState) (text : List ℕ) → old.begun ≡ true → text ≡ said_line at (codes "folded")
    → FoldsHere at old new → IsFoldAt at old text new
folds_at at old new text begun says (inl shorter) = record {
  world = folded_at (site_of at) shorter.0 old.world;
  folds = inl (shorter.0, shorter.1, shorter.2, refl);
  says = says;
  leads = shorter.3 ∙ (λ i. record { world = folded_at (site_of at) shorter.0 old.world; modes = old.modes; events = old.events; begun = begun i });
}
folds_at at old new text begun says (inr least) = record {
  world = old.world;
  folds = inr (least.0, refl);
  says = says;
  leads = least.1 ∙ (λ i. record { world = old.world; modes = old.modes; events = old.events; begun = begun i });
}

-- where the modes are shared from this line on

act_begun : (ask : Asked) (lost : Bool) (old : DrillState) (act : Act) → IsActOf ask lost (record old { begun = true }) act → IsActOf ask lost old act
act_begun ask lost old act is =
    record { at = is.at; modes = is.modes; does = is.does; stamp = is.stamp; nonce = is.nonce; lost = is.lost; may = is.may }

begun_acts : (doing : Doing) (old new : DrillState) (text : List ℕ) → Acts doing (record old { begun = true }) text new → Acts doing old text new
begun_acts Sets old new text never = absurd never
begun_acts (Does ask) old new text makes =
    record { act = makes.act; is = act_begun ask ask.lost old makes.act makes.is; says = makes.says; leads = makes.leads }
begun_acts (Stops call pick ask) old new text stops =
    record { act = stops.act; is = act_begun ask true old stops.act stops.is; says = stops.says; leads = stops.leads }
begun_acts (Reopens end) old new text reopens = reopens
begun_acts (Folds end) old new text folds = record { world = folds.world; folds = folds.folds; says = folds.says; leads = folds.leads }
begun_acts (Says end words) old new text says = says

begun_performs : (doing : Doing) (old new : DrillState) (result : Result (List ℕ) Refused) → Performs doing (record old { begun = true }) result new
    → Performs doing old result new
begun_performs doing old new (Ok text) performs = (begun_acts doing old new text performs.0, performs.1)
begun_performs doing old new (Err refused.TooMany) performs = performs
begun_performs doing old new (Err refused.Wrong) performs = performs
begun_performs doing old new (Err refused.NoMemory) performs = performs

pub performs_from : (l : Line) (old mid new : DrillState) (result : Result (List ℕ) Refused) → mid ≡ record old { begun = true }
    → Performs (doing_of mid.world l) mid result new → Performs (doing_of old.world l) old result new
performs_from l old mid new result begun performs =
    begun_performs (doing_of old.world l) old new result
    (subst (λ (s : DrillState). Performs (doing_of s.world l) s result new) begun performs)

-- a line of the grammar within the limit is right where it is in its place
right_mode : (l : Line) (state : DrillState) (placed : Bool) → IsTrue (is_line l) → length (line_text l) ≤ line_limit → is_placed l state ≡ placed → is_right l state ≡ placed
right_mode l state placed said short is =
    let long : nat_le (length (line_text l)) line_limit ≡ true = le-leb (length (line_text l)) line_limit short in
    rw (said, long, is) refl

-- a line of a pair is in its place where it is in order
pair_placed : (l : Line) (state : DrillState) (ordered : Bool) → is_pair_line l ≡ true → is_in_order l state.modes state.begun ≡ ordered → is_placed l state ≡ ordered
pair_placed l state ordered pair is = rw (pair, is) refl

-- and out of order elsewhere
unordered : (l : Line) (state : DrillState) → is_pair_line l ≡ true → is_placed l state ≡ false → is_in_order l state.modes state.begun ≡ false
unordered l state pair misplaced = subst (λ (b : Bool). (b && is_in_order l state.modes state.begun) ≡ false) pair misplaced

-- a line of a pair that names no mode does something at an end
pub at_end : (l : Line) → is_pair_line l ≡ true → ((name : List ℕ) (link : Option LinkName) (way : Way) (retries period : ℕ) → l ≡ line.Mode name link way retries period → ⊥) → IsAtEnd l
unfolding is_pair_line
at_end (line.Mode name link way retries period) pair other = other name link way retries period refl
at_end (line.Relay end mode) pair other = absurd cc
at_end l pair other = tt

-- a line that does something at an end is played

in_order : (l : Line) (modes : List Mode) (begun : Bool) → IsAtEnd l → is_in_order l modes begun ≡ true
in_order (line.Mode name link way retries period) modes begun never = absurd never
in_order l modes begun at = refl

pub right_at_end : (l : Line) (state : DrillState) → IsAtEnd l → is_pair_line l ≡ true → IsTrue (is_line l) → length (line_text l) ≤ line_limit → is_right l state ≡ true
right_at_end l state at pair said short =
    right_mode l state true said short (pair_placed l state true pair (in_order l state.modes state.begun at))

-- before the first event none is one too many
not_full : (doing : Doing) (events : ℕ) → events ≡ 0 → is_full_for doing events ≡ false
not_full (Does ask) events none = rw none refl
not_full (Stops call pick ask) events none = rw none refl
not_full (Reopens end) events none = refl
not_full (Folds end) events none = refl
not_full Sets events none = refl
not_full (Says end words) events none = refl

-- memory ran out before the first event
pub performs_none : (doing : Doing) (old new : DrillState) (result : Result (List ℕ) Refused) → IsErrAnd result (λ e. e ≡ refused.NoMemory)
    → old.events ≡ 0 → Performs doing old result new
performs_none doing old new (Ok text) is none = absurd is
performs_none doing old new (Err e) is none =
    subst (λ (r : Refused). Performs doing old (Err r) new) (sym is) (not_full doing old.events none)

-- what would make one event too many is told so
pub performs_full : (doing : Doing) (old new : DrillState) (result : Result (List ℕ) Refused) → Performs doing old result new
    → is_full_for doing old.events ≡ true → result ≡ Err refused.TooMany
performs_full doing old new (Ok text) performs full = let never = performs.1 in absurd (cc (never, full))
performs_full doing old new (Err refused.TooMany) performs full = refl
performs_full doing old new (Err refused.Wrong) performs full = absurd performs
performs_full doing old new (Err refused.NoMemory) performs full = absurd (cc (performs, full))

-- what is said of a line that is played, or isn't
pub record IsPlayed (l : Line) (old new : DrillState) (result : Result (List ℕ) Refused) : Type 0 where
  pub right : IfOk result (λ _. (is_right l old ≡ true) × (is_too_many l old ≡ false))
  pub plays : IfOk result (λ text. Plays l (doing_of old.world l) old text new)
  pub wrong : result ≡ Err refused.Wrong → is_right l old ≡ false
  pub too_many : result ≡ Err refused.TooMany → (is_right l old ≡ true) × (is_too_many l old ≡ true)
  pub told : is_right l old ≡ false → result ≡ Err refused.Wrong
  pub full : is_right l old ≡ true → is_too_many l old ≡ true → result ≡ Err refused.TooMany

-- a line of another script is refused
pub wrong_script : (l : Line) (old new : DrillState) → is_pair_line l ≡ false → IsTrue (is_line l) → length (line_text l) ≤ line_limit → IsPlayed l old new (Err refused.Wrong)
wrong_script l old new other said short =
    let wrong : is_right l old ≡ false = right_mode l old false said short (ap (λ (b : Bool). b && is_in_order l old.modes old.begun) other) in
    record {
      right = tt;
      plays = tt;
      wrong = λ _. wrong;
      too_many = λ never. absurd cc;
      told = λ _. refl;
      full = λ right _. absurd (cc (right, wrong));
    }

-- a line that names a mode

-- what its words are
pub record IsModeLine (name : List ℕ) (retries period : ℕ) : Type 0 where
  pub named : IsTrue (is_name name)
  pub limited : retries ≤ 1000
  pub some : 1 ≤ period
  pub timed : period ≤ 1000000000

pub mode_line : (l : Line) (name : List ℕ) (link : Option LinkName) (way : Way) (retries period : ℕ) → l ≡ line.Mode name link way retries period → IsTrue (is_line l)
    → IsModeLine name retries period
unfolding is_line
mode_line l name link way retries period is said =
    let here : IsTrue (is_line (line.Mode name link way retries period)) = subst (λ (k : Line). IsTrue (is_line k)) is said in
    let first = and_parts (is_name name) (nat_le retries 1000 && (nat_le 1 period && nat_le period 1000000000)) here in
    let second = and_parts (nat_le retries 1000) (nat_le 1 period && nat_le period 1000000000) first.1 in
    let third = and_parts (nat_le 1 period) (nat_le period 1000000000) second.1 in
    record {
      named = first.0;
      limited = leb-true retries 1000 second.0;
      some = leb-true 1 period third.0;
      timed = leb-true period 1000000000 third.1;
    }

-- a mode is added
abbrev pub Adds : Option LinkName → List ℕ → Way → ℕ → ℕ → DrillState → List ℕ → DrillState → Type 0
Adds link name way retries period old text new =
    (text ≡ []) × ((mode : Mode) × IsDrillMode link name way retries period mode × (new ≡ record old { modes = old.modes ++ mode ∷ [] }))

no_event : (name : List ℕ) (link : Option LinkName) (way : Way) (retries period : ℕ) (state : DrillState) → is_too_many (line.Mode name link way retries period) state ≡ false
unfolding doing_of
no_event name link way retries period state = refl

-- a line of the grammar that isn't right isn't in its place
misplaced : (l : Line) (state : DrillState) → IsTrue (is_line l) → length (line_text l) ≤ line_limit → is_right l state ≡ false → is_placed l state ≡ false
misplaced l state said short wrong = by_test (is_placed l state) refl
  where
    by_test : (b : Bool) → is_placed l state ≡ b → is_placed l state ≡ false
    by_test true is = let right = right_mode l state true said short is in absurd (cc (right, wrong))
    by_test false is = is

added_played : (link : Option LinkName) (name : List ℕ) (way : Way) (retries period : ℕ) (old new : DrillState) (result : Result (List ℕ) Refused)
    → is_pair_line (line.Mode name link way retries period) ≡ true
    → IsTrue (is_line (line.Mode name link way retries period)) → length (line_text (line.Mode name link way retries period)) ≤ line_limit
    → IfOk result (λ _. may_be_named name old.modes old.begun ≡ true)
    → IfOk result (λ text. Adds link name way retries period old text new)
    → (result ≡ Err refused.Wrong → may_be_named name old.modes old.begun ≡ false)
    → (may_be_named name old.modes old.begun ≡ false → result ≡ Err refused.Wrong)
    → result ≢ Err refused.TooMany → IsPlayed (line.Mode name link way retries period) old new result
added_played link name way retries period old new (Ok text) pair said short placed adds wrong told few =
    let l : Line = line.Mode name link way retries period in
    let right : is_right l old ≡ true = right_mode l old true said short (pair_placed l old true pair placed) in
    record {
      right = (right, no_event name link way retries period old);
      plays = (adds.1.0, adds.1.1, adds.0, adds.1.2);
      wrong = λ never. absurd cc;
      too_many = λ never. absurd cc;
      told = λ is. absurd (cc (is, right));
      full = λ _ many. let never = no_event name link way retries period old in absurd (cc (many, never));
    }
added_played link name way retries period old new (Err error) pair said short placed adds wrong told few =
    let l : Line = line.Mode name link way retries period in
    record {
      right = tt;
      plays = tt;
      wrong = λ is. right_mode l old false said short (pair_placed l old false pair (wrong is));
      too_many = λ many. absurd (few many);
      told = λ is. told (unordered l old pair (misplaced l old said short is));
      full = λ _ many. let never = no_event name link way retries period old in absurd (cc (many, never));
    }

-- where a mode is in its place
pub placed_here : (name : List ℕ) (modes : List Mode) (begun : Bool) → begun ≡ false → length modes < 1024
    → list_any (λ (mode : Mode). bytes_eq mode.name name) modes ≡ false → may_be_named name modes begun ≡ true
placed_here name modes begun new few other =
    let some : nat_lt (length modes) 1024 ≡ true = lt-ltb (length modes) 1024 few in
    rw (new, some, other) refl

pub mode_played : (l : Line) (link : Option LinkName) (name : List ℕ) (way : Way) (retries period : ℕ) (old new : DrillState) (result : Result (List ℕ) Refused)
    → l ≡ line.Mode name link way retries period → is_pair_line l ≡ true → IsTrue (is_line l) → length (line_text l) ≤ line_limit
    → IfOk result (λ _. may_be_named name old.modes old.begun ≡ true)
    → IfOk result (λ text. Adds link name way retries period old text new)
    → (result ≡ Err refused.Wrong → may_be_named name old.modes old.begun ≡ false)
    → (may_be_named name old.modes old.begun ≡ false → result ≡ Err refused.Wrong)
    → result ≢ Err refused.TooMany → IsPlayed l old new result
mode_played l link name way retries period old new result is pair said short placed adds wrong told few =
    subst (λ (k : Line). IsPlayed k old new result) (sym is)
    (added_played link name way retries period old new result
    (subst (λ (k : Line). is_pair_line k ≡ true) is pair)
    (subst (λ (k : Line). IsTrue (is_line k)) is said) (subst (λ (k : Line). length (line_text k) ≤ line_limit) is short)
    placed adds wrong told few)
