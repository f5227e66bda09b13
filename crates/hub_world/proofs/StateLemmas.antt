-- What happens at one endpoint of a drill is what its line asks for.
use Rattle.std.proofs.Common.{◌≡◌, ◌≢◌, ℕ, ◌+◌, List, [], ◌∷◌, ◌++◌, Bool, true, false, ◌&&◌, if◌then◌else◌, nat_le, Option, refl, sym, ◌∙◌, ap, subst}
use Rattle.std.specs.Prelude.{◌≤◌, Ok, Err, IfOk, IsErrAnd, IsTrue, Result, length}
use Rattle.std.specs.Option.{unwrap_or}
use Rattle.std.proofs.lemmas.Bool.{le-leb}
use Rattle.std.proofs.lemmas.List.{append-nil}
use Rattle.as4_disk.specs.declared.change.Pick.{Pick}
use Rattle.mode_values.specs.declared.mode.Mode.{Mode}
use Rattle.drill_script.specs.LineText.{is_line, line_limit, line_text}
use Rattle.drill_script.specs.Scripts.{is_chain_line}
use Rattle.drill_script.specs.declared.line.EndName.{EndName}
use Rattle.drill_script.specs.declared.line.EndName.TheVariants as name
use Rattle.drill_script.specs.declared.line.Line.{Line}
use Rattle.drill_script.specs.declared.line.Line.TheVariants as line
use Rattle.drill_script.specs.declared.line.LinkName.{LinkName}
use Rattle.drill_script.specs.declared.line.Way.{Way}
use Rattle.drill_texts.specs.Modes.{IsDrillMode}
use Rattle.drill_world.proofs.StateLemmas.{asks_for}
use Rattle.drill_world.specs.Transcript.{is_in_order, may_be_named, stands}
use Rattle.drill_world.specs.declared.refused.Refused.{Refused}
use Rattle.drill_world.specs.declared.refused.Refused.TheVariants as refused
use Rattle.exchange_model.specs.World.{speaker_after}
use Rattle.exchange_model.specs.declared.event.Event.{Event}
use Rattle.exchange_model.specs.declared.outcome.Outcome.{Outcome}
use Rattle.hub_world.specs.Ends.{Ends, TrioState, ends_after, speaker_of, with_speaker}
use Rattle.hub_world.specs.States.{IsInChain, Performs}
use Rattle.hub_world.specs.Transcript.{Acts, Doing, Does, HubState, IsEventOf, IsRelayed, IsStopped, Makes, Plays, Relays, Reopens, Says, Sets, Stops, counted, doing_of, is_full_for, is_placed, is_right, is_too_many, running_of}
use Rattle.hub_world.specs.Trios.{MeetsIn, RelaysIn, StopsIn}

-- a state by its parts
abbrev pub state_of : TrioState → List Mode → ℕ → Bool → HubState
state_of trio modes events begun = record { ends = trio.ends; modes = modes; events = events; begun = begun }

-- an event that is the next of all
pub record IsNext (at : EndName) (event : Event) (moment : Option ℕ) (state : HubState) : Type 0 where
  pub nonce : event.nonce ≡ state.events
  pub stamp : event.stamp ≡ unwrap_or moment (speaker_of at state.ends).end.moment

is_event : (at : EndName) (event : Event) (moment : Option ℕ) (lost : Bool) (number : ℕ) (state : HubState) → IsNext at event moment state
    → IsEventOf (asks_for at event moment lost number) state event
is_event at event moment lost number state next = record { does = refl; stamp = next.stamp; nonce = next.nonce }

-- the state after one event more
leads_to : (ends : Ends) (old new : HubState) (is : TrioState) → new ≡ state_of is old.modes (old.events + 1) old.begun → old.begun ≡ true → is.ends ≡ ends
    → new ≡ counted (record old { ends = ends })
leads_to ends old new is put begun same = put ∙ (λ i. record { ends = same i; modes = old.modes; events = old.events + 1; begun = begun i })

-- the parts of the state are those of the counted one
pub parts_are : (was is : TrioState) (modes : List Mode) (events : ℕ) (begun : Bool) (old counts : HubState) → state_of was modes events begun ≡ counts
    → counts ≡ record old { events = old.events + 1 } → state_of is modes events begun ≡ state_of is old.modes (old.events + 1) old.begun
parts_are was is modes events begun old counts seen counted_is =
    let same : state_of was modes events begun ≡ record old { events = old.events + 1 } = seen ∙ counted_is in
    λ i. state_of is (same i).modes (same i).events (same i).begun

pub met_makes : {E : Type 0} (on : LinkName) (at : EndName) (event : Event) (number : ℕ) (lost : Bool) (was is : TrioState) (result : Result (List ℕ) E) (old new : HubState)
    → was.ends ≡ old.ends → was.modes ≡ old.modes → new ≡ state_of is old.modes (old.events + 1) old.begun → old.begun ≡ true → event.nonce ≡ old.events
    → IfOk result (λ text. MeetsIn on at event number lost was text is)
    → IfOk result (λ text. (moment : Option ℕ) → event.stamp ≡ unwrap_or moment (speaker_of at old.ends).end.moment
    → Makes on (asks_for at event moment lost number) old text new)
met_makes on at event number lost was is (Ok text) old new ends modes put begun nonce meets = λ moment stamp.
    let trio : TrioState = record { ends = old.ends; modes = old.modes } in
    let same : was ≡ trio = λ i. record { ends = ends i; modes = modes i } in
    let here : MeetsIn on at event number lost trio text is = subst (λ (t : TrioState). MeetsIn on at event number lost t text is) same meets in
    record {
      event = event;
      outcome = here.outcome;
      is = is_event at event moment lost number old (record { nonce = nonce; stamp = stamp });
      step = here.step;
      says = here.says;
      leads = leads_to (ends_after at on here.outcome lost old.ends) old new is put begun here.leads;
    }
met_makes on at event number lost was is (Err error) old new ends modes put begun nonce meets = tt

-- a reply that is lost adds no link
lost_after : (at : EndName) (on : LinkName) (outcome : Outcome) (ends : Ends)
    → with_speaker at (speaker_after outcome true (speaker_of at ends)) ends ≡ ends_after at on outcome true ends
lost_after name.First on outcome ends = refl
lost_after name.Last on outcome ends = refl
lost_after at on outcome ends = λ i. record {
  first = ends.first;
  hub = speaker_after outcome true ends.hub;
  last = ends.last;
  links = sym (append-nil ends.links) i;
}

pub met_stops : {E : Type 0} (on : LinkName) (call : ℕ) (pick : Pick) (at : EndName) (event : Event) (was is : TrioState) (result : Result (List ℕ) E) (old new : HubState)
    → was.ends ≡ old.ends → was.modes ≡ old.modes → new ≡ state_of is old.modes (old.events + 1) old.begun → old.begun ≡ true → event.nonce ≡ old.events
    → IfOk result (λ text. StopsIn at event call pick was text is)
    → IfOk result (λ text. (moment : Option ℕ) (lost : Bool) (number : ℕ) → event.stamp ≡ unwrap_or moment (speaker_of at old.ends).end.moment
    → IsStopped call pick on (asks_for at event moment lost number) old text new)
met_stops on call pick at event was is (Ok text) old new ends modes put begun nonce stops = λ moment lost number stamp.
    let trio : TrioState = record { ends = old.ends; modes = old.modes } in
    let same : was ≡ trio = λ i. record { ends = ends i; modes = modes i } in
    let here : StopsIn at event call pick trio text is = subst (λ (t : TrioState). StopsIn at event call pick t text is) same stops in
    record {
      event = event;
      outcome = here.outcome;
      is = is_event at event moment lost number old (record { nonce = nonce; stamp = stamp });
      step = here.step;
      says = here.says;
      leads = leads_to (if stands call pick then ends_after at on here.outcome true old.ends else old.ends) old new is put begun
          (here.leads ∙ ap (λ (e : Ends). if stands call pick then e else old.ends) (lost_after at on here.outcome old.ends));
    }
met_stops on call pick at event was is (Err error) old new ends modes put begun nonce stops = tt

pub relays_in : {E : Type 0} (called : List ℕ) (was is : TrioState) (result : Result (List ℕ) E) (old new : HubState) (stamp nonce : ℕ)
    → was.ends ≡ old.ends → was.modes ≡ old.modes → new ≡ state_of is old.modes (old.events + 1) old.begun → old.begun ≡ true
    → stamp ≡ old.ends.hub.end.moment → nonce ≡ old.events → IfOk result (λ text. RelaysIn called stamp nonce was text is)
    → IfOk result (λ text. IsRelayed called old text new)
relays_in called was is (Ok text) old new stamp nonce ends modes put begun stamped named relays =
    let trio : TrioState = record { ends = old.ends; modes = old.modes } in
    let same : was ≡ trio = λ i. record { ends = ends i; modes = modes i } in
    let here : RelaysIn called old.ends.hub.end.moment old.events trio text is =
    subst (λ (n : ℕ). RelaysIn called old.ends.hub.end.moment n trio text is) named
    (subst (λ (s : ℕ). RelaysIn called s nonce trio text is) stamped (subst (λ (t : TrioState). RelaysIn called stamp nonce t text is) same relays)) in
    record {
      after = here.after;
      relays = here.relays;
      leads = leads_to (with_speaker name.Hub here.after.speaker old.ends) old new is put begun here.leads;
    }
relays_in called was is (Err error) old new stamp nonce ends modes put begun stamped named relays = tt

-- the endpoints have their modes from here on

begun_acts : (doing : Doing) (old new : HubState) (text : List ℕ) → Acts doing (record old { begun = true }) text new → Acts doing old text new
begun_acts Sets old new text never = absurd never
begun_acts (Does on ask) old new text makes = record {
  event = makes.event;
  outcome = makes.outcome;
  is = record { does = makes.is.does; stamp = makes.is.stamp; nonce = makes.is.nonce };
  step = makes.step;
  says = makes.says;
  leads = makes.leads;
}
begun_acts (Stops call pick on ask) old new text stops = record {
  event = stops.event;
  outcome = stops.outcome;
  is = record { does = stops.is.does; stamp = stops.is.stamp; nonce = stops.is.nonce };
  step = stops.step;
  says = stops.says;
  leads = stops.leads;
}
begun_acts (Relays called) old new text relays = record { after = relays.after; relays = relays.relays; leads = relays.leads }
begun_acts (Reopens end) old new text reopens = reopens
begun_acts (Says end words) old new text says = says

begun_performs : (doing : Doing) (old new : HubState) (result : Result (List ℕ) Refused) → Performs doing (record old { begun = true }) result new
    → Performs doing old result new
begun_performs doing old new (Ok text) performs = (begun_acts doing old new text performs.0, performs.1)
begun_performs doing old new (Err refused.TooMany) performs = performs
begun_performs doing old new (Err refused.Wrong) performs = performs
begun_performs doing old new (Err refused.NoMemory) performs = performs

-- what a line does doesn't depend on whether a line was more than a mode
same_doing : (l : Line) (old : HubState) → doing_of (record old { begun = true }) l ≡ doing_of old l
unfolding doing_of running_of
same_doing l old = refl

pub performs_from : (l : Line) (old mid new : HubState) (result : Result (List ℕ) Refused) → mid ≡ record old { begun = true }
    → Performs (doing_of mid l) mid result new → Performs (doing_of old l) old result new
performs_from l old mid new result begun performs =
    begun_performs (doing_of old l) old new result
    (subst (λ (d : Doing). Performs d (record old { begun = true }) result new) (same_doing l old)
    (subst (λ (s : HubState). Performs (doing_of s l) s result new) begun performs))

-- a line of the grammar within the limit is right where it is in its place
right_mode : (l : Line) (state : HubState) (placed : Bool) → IsTrue (is_line l) → length (line_text l) ≤ line_limit → is_placed l state ≡ placed → is_right l state ≡ placed
right_mode l state placed said short is =
    let long : nat_le (length (line_text l)) line_limit ≡ true = le-leb (length (line_text l)) line_limit short in
    rw (said, long, is) refl

-- a line of a chain is in its place where it is in order
chain_placed : (l : Line) (state : HubState) (ordered : Bool) → is_chain_line l ≡ true → is_in_order l state.modes state.begun ≡ ordered → is_placed l state ≡ ordered
chain_placed l state ordered chain is = rw (chain, is) refl

-- and out of order elsewhere
unordered : (l : Line) (state : HubState) → is_chain_line l ≡ true → is_placed l state ≡ false → is_in_order l state.modes state.begun ≡ false
unordered l state chain misplaced = subst (λ (b : Bool). (b && is_in_order l state.modes state.begun) ≡ false) chain misplaced

misplaced : (l : Line) (state : HubState) → IsTrue (is_line l) → length (line_text l) ≤ line_limit → is_right l state ≡ false → is_placed l state ≡ false
misplaced l state said short wrong = by_test (is_placed l state) refl
  where
    by_test : (b : Bool) → is_placed l state ≡ b → is_placed l state ≡ false
    by_test true is = let right = right_mode l state true said short is in absurd (cc (right, wrong))
    by_test false is = is

-- a line of a chain that names no mode is one that does something
pub in_chain : (l : Line) → is_chain_line l ≡ true → ((called : List ℕ) (on : Option LinkName) (way : Way) (retries period : ℕ) → l ≡ line.Mode called on way retries period → ⊥) → IsInChain l
unfolding is_chain_line
in_chain (line.Mode called on way retries period) chain other = other called on way retries period refl
in_chain (line.Pair end called number) chain other = absurd cc
in_chain (line.Fold end) chain other = absurd cc
in_chain l chain other = tt

in_order : (l : Line) (modes : List Mode) (begun : Bool) → IsInChain l → is_in_order l modes begun ≡ true
in_order (line.Mode called on way retries period) modes begun never = absurd never
in_order l modes begun in_it = refl

pub right_in_chain : (l : Line) (state : HubState) → IsInChain l → is_chain_line l ≡ true → IsTrue (is_line l) → length (line_text l) ≤ line_limit → is_right l state ≡ true
right_in_chain l state in_it chain said short =
    right_mode l state true said short (chain_placed l state true chain (in_order l state.modes state.begun in_it))

-- before the first event none is one too many
not_full : (doing : Doing) (events : ℕ) → events ≡ 0 → is_full_for doing events ≡ false
not_full (Does on ask) events none = rw none refl
not_full (Stops call pick on ask) events none = rw none refl
not_full (Relays called) events none = rw none refl
not_full (Reopens end) events none = refl
not_full Sets events none = refl
not_full (Says end words) events none = refl

-- memory ran out before the first event
pub performs_none : (doing : Doing) (old new : HubState) (result : Result (List ℕ) Refused) → IsErrAnd result (λ e. e ≡ refused.NoMemory)
    → old.events ≡ 0 → Performs doing old result new
performs_none doing old new (Ok text) is none = absurd is
performs_none doing old new (Err e) is none =
    subst (λ (r : Refused). Performs doing old (Err r) new) (sym is) (not_full doing old.events none)

-- what would make one event too many is reported so
performs_full : (doing : Doing) (old new : HubState) (result : Result (List ℕ) Refused) → Performs doing old result new
    → is_full_for doing old.events ≡ true → result ≡ Err refused.TooMany
performs_full doing old new (Ok text) performs full = let never = performs.1 in absurd (cc (never, full))
performs_full doing old new (Err refused.TooMany) performs full = refl
performs_full doing old new (Err refused.Wrong) performs full = absurd performs
performs_full doing old new (Err refused.NoMemory) performs full = absurd (cc (performs, full))

-- what is said of a line that is played, or isn't
pub record IsPlayed (l : Line) (old new : HubState) (result : Result (List ℕ) Refused) : Type 0 where
  pub right : IfOk result (λ _. (is_right l old ≡ true) × (is_too_many l old ≡ false))
  pub plays : IfOk result (λ text. Plays l (doing_of old l) old text new)
  pub wrong : result ≡ Err refused.Wrong → is_right l old ≡ false
  pub too_many : result ≡ Err refused.TooMany → (is_right l old ≡ true) × (is_too_many l old ≡ true)
  pub told : is_right l old ≡ false → result ≡ Err refused.Wrong
  pub full : is_right l old ≡ true → is_too_many l old ≡ true → result ≡ Err refused.TooMany

-- a line of another script is refused
pub wrong_script : (l : Line) (old new : HubState) → is_chain_line l ≡ false → IsTrue (is_line l) → length (line_text l) ≤ line_limit → IsPlayed l old new (Err refused.Wrong)
wrong_script l old new other said short =
    let wrong : is_right l old ≡ false = right_mode l old false said short (ap (λ (b : Bool). b && is_in_order l old.modes old.begun) other) in
    record {
      right = tt;
      plays = tt;
      wrong = λ _. wrong;
      too_many = λ never. absurd cc;
      told = λ _. refl;
      full = λ right _. absurd (cc (right, wrong));
    }

-- a line that does something

plays_so : (l : Line) (old new : HubState) (text : List ℕ) → IsInChain l → Acts (doing_of old l) old text new → Plays l (doing_of old l) old text new
plays_so (line.Mode called on way retries period) old new text never acts = absurd never
plays_so l old new text in_it acts = acts

pub performs_played : (l : Line) (old new : HubState) (result : Result (List ℕ) Refused) → IsInChain l → is_chain_line l ≡ true → IsTrue (is_line l)
    → length (line_text l) ≤ line_limit → Performs (doing_of old l) old result new → IsPlayed l old new result
performs_played l old new result in_it chain said short performs = by_result result performs
  where
    right : is_right l old ≡ true
    right = right_in_chain l old in_it chain said short

    by_result : (r : Result (List ℕ) Refused) → Performs (doing_of old l) old r new → IsPlayed l old new r
    by_result (Ok text) is = record {
      right = (right, is.1);
      plays = plays_so l old new text in_it is.0;
      wrong = λ never. absurd cc;
      too_many = λ never. absurd cc;
      told = λ wrong. absurd (cc (right, wrong));
      full = λ _ many. performs_full (doing_of old l) old new (Ok text) is many;
    }
    by_result (Err refused.TooMany) is = record {
      right = tt;
      plays = tt;
      wrong = λ never. absurd cc;
      too_many = λ _. (right, is);
      told = λ wrong. absurd (cc (right, wrong));
      full = λ _ many. refl;
    }
    by_result (Err refused.Wrong) is = absurd is
    by_result (Err refused.NoMemory) is = record {
      right = tt;
      plays = tt;
      wrong = λ never. absurd cc;
      too_many = λ never. absurd cc;
      told = λ wrong. absurd (cc (right, wrong));
      full = λ _ many. absurd (cc (is, many));
    }

-- a line that names a mode

no_event : (called : List ℕ) (on : Option LinkName) (way : Way) (retries period : ℕ) (state : HubState) → is_too_many (line.Mode called on way retries period) state ≡ false
unfolding doing_of
no_event called on way retries period state = refl

-- a mode is added
abbrev pub Adds : Option LinkName → List ℕ → Way → ℕ → ℕ → HubState → List ℕ → HubState → Type 0
Adds on called way retries period old text new =
    (text ≡ []) × ((mode : Mode) × IsDrillMode on called way retries period mode × (new ≡ record old { modes = old.modes ++ mode ∷ [] }))

added_played : (on : Option LinkName) (called : List ℕ) (way : Way) (retries period : ℕ) (old new : HubState) (result : Result (List ℕ) Refused)
    → is_chain_line (line.Mode called on way retries period) ≡ true
    → IsTrue (is_line (line.Mode called on way retries period)) → length (line_text (line.Mode called on way retries period)) ≤ line_limit
    → IfOk result (λ _. may_be_named called old.modes old.begun ≡ true)
    → IfOk result (λ text. Adds on called way retries period old text new)
    → (result ≡ Err refused.Wrong → may_be_named called old.modes old.begun ≡ false)
    → (may_be_named called old.modes old.begun ≡ false → result ≡ Err refused.Wrong)
    → result ≢ Err refused.TooMany → IsPlayed (line.Mode called on way retries period) old new result
added_played on called way retries period old new (Ok text) chain said short placed adds wrong told few =
    let l : Line = line.Mode called on way retries period in
    let right : is_right l old ≡ true = right_mode l old true said short (chain_placed l old true chain placed) in
    record {
      right = (right, no_event called on way retries period old);
      plays = (adds.1.0, adds.1.1, adds.0, adds.1.2);
      wrong = λ never. absurd cc;
      too_many = λ never. absurd cc;
      told = λ is. absurd (cc (is, right));
      full = λ _ many. let never = no_event called on way retries period old in absurd (cc (many, never));
    }
added_played on called way retries period old new (Err error) chain said short placed adds wrong told few =
    let l : Line = line.Mode called on way retries period in
    record {
      right = tt;
      plays = tt;
      wrong = λ is. right_mode l old false said short (chain_placed l old false chain (wrong is));
      too_many = λ many. absurd (few many);
      told = λ is. told (unordered l old chain (misplaced l old said short is));
      full = λ _ many. let never = no_event called on way retries period old in absurd (cc (many, never));
    }

pub mode_played : (l : Line) (on : Option LinkName) (called : List ℕ) (way : Way) (retries period : ℕ) (old new : HubState) (result : Result (List ℕ) Refused)
    → l ≡ line.Mode called on way retries period → is_chain_line l ≡ true → IsTrue (is_line l) → length (line_text l) ≤ line_limit
    → IfOk result (λ _. may_be_named called old.modes old.begun ≡ true)
    → IfOk result (λ text. Adds on called way retries period old text new)
    → (result ≡ Err refused.Wrong → may_be_named called old.modes old.begun ≡ false)
    → (may_be_named called old.modes old.begun ≡ false → result ≡ Err refused.Wrong)
    → result ≢ Err refused.TooMany → IsPlayed l old new result
mode_played l on called way retries period old new result is chain said short placed adds wrong told few =
    subst (λ (k : Line). IsPlayed k old new result) (sym is)
    (added_played on called way retries period old new result
    (subst (λ (k : Line). is_chain_line k ≡ true) is chain)
    (subst (λ (k : Line). IsTrue (is_line k)) is said) (subst (λ (k : Line). length (line_text k) ≤ line_limit) is short)
    placed adds wrong told few)
