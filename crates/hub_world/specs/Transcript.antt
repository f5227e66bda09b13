-- What a drill of a chain writes for a script, by this program's own rules: a line names a mode, or makes an event at one
-- of three endpoints, whose steps are the machine's, or has the hub relay, or has the power of an endpoint fail, or only
-- has something said of it.
use Rattle.std.specs.Prelude.{◌≡◌, ℕ, ◌+◌, List, [], ◌∷◌, ◌++◌, Bool, true, false, ◌&&◌, if◌then◌else◌, nat_le, IsTrue, Option, None, Some, length, codes}
use Rattle.std.specs.List.{list_any}
use Rattle.std.specs.Option.{unwrap_or}
use Rattle.std.specs.Str.{bytes_eq}
use Rattle.as4_values.specs.declared.header.Party.{Party}
use Rattle.as4_values.specs.declared.message.Message.{Message}
use Rattle.as4_disk.specs.declared.change.Pick.{Pick}
use Rattle.mode_values.specs.declared.mode.Mode.{Mode}
use Rattle.drill_script.specs.LineText.{is_line, line_limit, line_text}
use Rattle.drill_script.specs.Scripts.{is_chain_line}
use Rattle.drill_script.specs.declared.line.EndName.{EndName}
use Rattle.drill_script.specs.declared.line.EndName.TheVariants as name
use Rattle.drill_script.specs.declared.line.Line.{Line}
use Rattle.drill_script.specs.declared.line.Line.TheVariants as line
use Rattle.drill_script.specs.declared.line.LinkName.{LinkName}
use Rattle.drill_script.specs.declared.line.LinkName.TheVariants as link
use Rattle.drill_script.specs.declared.line.ScriptLoad.{ScriptLoad}
use Rattle.drill_script.specs.declared.line.Stoppable.{Stoppable}
use Rattle.drill_script.specs.declared.line.Stoppable.TheVariants.{Submit, Tick, Take, Came, Confirm}
use Rattle.drill_texts.specs.Loads.{loads_of}
use Rattle.drill_texts.specs.Modes.{IsDrillMode, sender_of}
use Rattle.drill_texts.specs.Texts.{end_line, reply_text, said_line, status_text}
use Rattle.drill_world.specs.Events.{asked}
use Rattle.drill_world.specs.declared.asked.Asked.{Asked}
use Rattle.drill_world.specs.Endpoints.{EndpointState}
use Rattle.drill_world.specs.Relaying.{RelaysAt}
use Rattle.drill_world.specs.Transcript.{events_limit, is_in_order, stands}
use Rattle.hub_world.specs.Ends.{Ends, ends_after, id_at, link_for, new_ends, package_for, speaker_of, with_speaker}
use Rattle.exchange_model.specs.Table.{Step}
use Rattle.exchange_model.specs.declared.event.Event.{Event}
use Rattle.exchange_model.specs.declared.outcome.Outcome.{Outcome}
use Rattle.exchange_model.specs.declared.what.What.{What}
use Rattle.exchange_model.specs.declared.what.What.TheVariants as what

-- what a script has led to: three endpoints with their modes, how many events were made, and whether a line was more
-- than a mode
pub record HubState : Type 0 where
  pub ends : Ends
  pub modes : List Mode
  pub events : ℕ
  pub begun : Bool

abbrev pub new_state : HubState
new_state = record { ends = new_ends; modes = []; events = 0; begun = false }

-- what a line does: it names a mode, asks for an event that is met on a link, or for one that is stopped at a device call
-- with an image of the disk picked, has the hub relay by a mode, opens the disk of an endpoint again, or only has
-- something said of an endpoint
pub data Doing : Type 0 where
  Sets : Doing
  Does : LinkName → Asked → Doing
  Stops : ℕ → Pick → LinkName → Asked → Doing
  Relays : List ℕ → Doing
  Reopens : EndName → Doing
  Says : EndName → List ℕ → Doing

-- an event that is asked for is stopped
abbrev pub stopped : ℕ → Pick → Doing → Doing
stopped call pick (Does on ask) = Stops call pick on ask
stopped call pick other = other

-- the first party has this identifier
abbrev pub is_party : List ℕ → List Party → Bool
is_party id [] = false
is_party id (party ∷ parties) = bytes_eq party.id id

-- a mode of this name is of this link
abbrev pub has_mode : LinkName → List ℕ → List Mode → Bool
has_mode on called modes =
    list_any (λ (mode : Mode). bytes_eq mode.name called && is_party (sender_of (Some on)) mode.from.parties) modes

-- an event at the endpoint's own moment, whose reply isn't lost
abbrev pub does : EndName → ℕ → What → Doing
does end number w = Does (link_for end None) (asked end number w)

-- the first endpoint submits by a mode of its link
abbrev pub submits : Bool → List ℕ → ScriptLoad → Doing
submits true called load = does name.First 0 (what.Submit called (Some (codes "c")) (loads_of load))
submits false called load = Says name.First (codes "no-mode")

-- the hub relays by a mode of its link
abbrev pub relays : Bool → List ℕ → Doing
relays true called = Relays called
relays false called = Says name.Hub (codes "no-mode")

-- this message comes, or there is no such package
abbrev pub comes : EndName → EndName → Bool → Option Message → Doing
comes end from lost None = Says end (codes "no-package")
comes end from lost (Some message) =
    Does (link_for end (Some from)) (record { end = end; what = what.Came message; moment = None; lost = lost; number = 0 })

-- a package of an endpoint, if it is named
abbrev pub arrives : EndName → Option EndName → Bool → ℕ → Ends → Doing
arrives end None lost number ends = Says end (codes "no-package")
arrives end (Some from) lost number ends = comes end from lost (package_for end from number ends)

-- what became of this submission is asked, or there is no such one
abbrev pub tells : EndName → ℕ → Option (List ℕ) → Doing
tells end number None = Says end (status_text number (codes "unknown"))
tells end number (Some id) = does end number (what.Status id)

-- what a line that can be stopped does where it isn't
unfoldable pub running_of : HubState → Stoppable → Doing
running_of state (Submit end called load) = submits (has_mode link.Front called state.modes) called load
running_of state (Tick end moment) =
    Does (link_for end None) (record { end = end; what = what.Tick; moment = Some moment; lost = false; number = 0 })
running_of state (Take end) = does end 0 what.Take
running_of state (Came end from number) = arrives end from false number state.ends
running_of state (Confirm end number) = does end number (what.Confirm number)

-- what a line does
unfoldable pub doing_of : HubState → Line → Doing
doing_of state (line.Mode called on way retries period) = Sets
doing_of state (line.Run l) = running_of state l
doing_of state (line.Ask end called) = does name.Last 0 (what.Ask called)
doing_of state (line.Pair end called number) = Sets
doing_of state (line.Relay end called) = relays (has_mode link.Rear called state.modes) called
doing_of state (line.Lost end from number) = arrives end from true number state.ends
doing_of state (line.Read end number) = does end number (what.Read number)
doing_of state (line.Status end number) = tells end number (id_at end number state.ends)
doing_of state (line.Crash end) = Reopens end
doing_of state (line.Stop call pick l) = stopped call pick (running_of state l)
doing_of state (line.Fold end) = Sets

-- one event more, after a line that was more than a mode
abbrev pub counted : HubState → HubState
counted state = record state { events = state.events + 1; begun = true }

-- an event of what is asked: its nonce is its number among all events, its moment is the endpoint's where the line sets
-- none
pub record IsEventOf (ask : Asked) (old : HubState) (event : Event) : Type 0 where
  pub does : event.what ≡ ask.what
  pub stamp : event.stamp ≡ unwrap_or ask.moment (speaker_of ask.end old.ends).end.moment
  pub nonce : event.nonce ≡ old.events

-- the event happens on a link
pub record Makes (on : LinkName) (ask : Asked) (old : HubState) (text : List ℕ) (new : HubState) : Type 0 where
  pub event : Event
  pub outcome : Outcome
  pub is : IsEventOf ask old event
  pub step : Step old.modes (speaker_of ask.end old.ends).end event outcome
  pub says : text ≡ said_line ask.end (reply_text ask.number ask.lost (length (speaker_of ask.end old.ends).said) outcome.reply)
  pub leads : new ≡ counted (record old { ends = ends_after ask.end on outcome ask.lost old.ends })

-- the event is stopped, or ends before that where it writes less, and the disk of its endpoint is opened again
pub record IsStopped (call : ℕ) (pick : Pick) (on : LinkName) (ask : Asked) (old : HubState) (text : List ℕ) (new : HubState) : Type 0 where
  pub event : Event
  pub outcome : Outcome
  pub is : IsEventOf ask old event
  pub step : Step old.modes (speaker_of ask.end old.ends).end event outcome
  pub says : text ≡ said_line ask.end (codes "reopened")
  pub leads : new ≡ counted (record old {
    ends = if stands call pick then ends_after ask.end on outcome true old.ends else old.ends;
  })

-- the hub relays the next message of its inbox
pub record IsRelayed (called : List ℕ) (old : HubState) (text : List ℕ) (new : HubState) : Type 0 where
  pub after : EndpointState
  pub relays : (let hub : EndpointState = record { speaker = old.ends.hub; modes = old.modes } in
      RelaysAt name.Hub called old.ends.hub.end.moment old.events hub text after)
  pub leads : new ≡ counted (record old { ends = with_speaker name.Hub after.speaker old.ends })

-- what is done, and what is written of it
abbrev pub Acts : Doing → HubState → List ℕ → HubState → Type 0
Acts Sets old text new = ⊥
Acts (Does on ask) old text new = Makes on ask old text new
Acts (Stops call pick on ask) old text new = IsStopped call pick on ask old text new
Acts (Relays called) old text new = IsRelayed called old text new
Acts (Reopens end) old text new = (text ≡ said_line end (codes "reopened")) × (new ≡ record old { begun = true })
Acts (Says end words) old text new = (text ≡ said_line end words) × (new ≡ record old { begun = true })

-- what a line leads to, and what it writes
abbrev pub Plays : Line → Doing → HubState → List ℕ → HubState → Type 0
Plays (line.Mode called on way retries period) doing old text new =
    (mode : Mode) × IsDrillMode on called way retries period mode × (text ≡ [])
    × (new ≡ record old { modes = old.modes ++ mode ∷ [] })
Plays l doing old text new = Acts doing old text new

-- it is a line of a chain, in its place
abbrev pub is_placed : Line → HubState → Bool
is_placed l state = is_chain_line l && is_in_order l state.modes state.begun

-- the line is in the grammar, within the limit and in its place
abbrev pub is_right : Line → HubState → Bool
is_right l state = is_line l && (nat_le (length (line_text l)) line_limit && is_placed l state)

-- after this number of events, this would be one too many
abbrev pub is_full_for : Doing → ℕ → Bool
is_full_for (Does on ask) events = nat_le events_limit events
is_full_for (Stops call pick on ask) events = nat_le events_limit events
is_full_for (Relays called) events = nat_le events_limit events
is_full_for other events = false

-- the line would make one event too many
abbrev pub is_too_many : Line → HubState → Bool
is_too_many l state = is_full_for (doing_of state l) state.events

-- these lines, one after another
abbrev pub PlaysAll : List Line → HubState → List ℕ → HubState → Type 0
PlaysAll [] old text new = (text ≡ []) × (new ≡ old)
PlaysAll (l ∷ lines) old text new =
    (mid : HubState) × (words : List ℕ) × (rest : List ℕ) × IsTrue (is_right l old) × (is_too_many l old ≡ false)
    × Plays l (doing_of old l) old words mid × PlaysAll lines mid rest new × (text ≡ words ++ rest)

-- the numbers of the three endpoints
abbrev pub end_lines : Ends → List ℕ
end_lines ends =
    end_line name.First ends.first.end ++ end_line name.Hub ends.hub.end ++ end_line name.Last ends.last.end
