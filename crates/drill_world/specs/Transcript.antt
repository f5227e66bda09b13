-- What a drill writes for a script, by this program's own rules: a line names a mode, or makes an event at one of two
-- ends, whose steps are the machine's, or has an end's power fail or its journal folded, or only has something said of it.
use Rattle.std.specs.Prelude.{◌≡◌, ℕ, ◌+◌, List, [], ◌∷◌, ◌++◌, Bool, true, false, not, ◌&&◌, if◌then◌else◌, nat_lt, nat_le, IsTrue, Some, length, codes}
use Rattle.std.specs.List.{flat_map, list_any}
use Rattle.std.specs.Option.{unwrap_or}
use Rattle.std.specs.Str.{bytes_eq}
use Rattle.mode_values.specs.declared.mode.Mode.{Mode}
use Rattle.as4_disk.specs.declared.change.Pick.{Pick}
use Rattle.as4_disk.specs.declared.change.Pick.TheVariants.{New}
use Rattle.drill_world.specs.Endpoints.{MatchFold}
use Rattle.drill_world.specs.Events.{Asked, Doing, Sets, Does, Stops, Reopens, Folds, Says, asked, comes, stopped, tells, package_for, id_at, site_of}
use Rattle.drill_script.specs.LineText.{line_text, is_line, line_limit}
use Rattle.drill_script.specs.Scripts.{is_pair_line}
use Rattle.drill_script.specs.declared.line.EndName.{EndName}
use Rattle.drill_script.specs.declared.line.EndName.TheVariants as name
use Rattle.drill_script.specs.declared.line.Line.{Line}
use Rattle.drill_script.specs.declared.line.Line.TheVariants as line
use Rattle.drill_script.specs.declared.line.Stoppable.{Stoppable}
use Rattle.drill_script.specs.declared.line.Stoppable.TheVariants.{Submit, Tick, Take, Came, Confirm}
use Rattle.drill_texts.specs.Loads.{loads_of}
use Rattle.drill_texts.specs.Modes.{IsDrillMode}
use Rattle.drill_texts.specs.Texts.{said_line, reply_text, status_text, end_line}
use Rattle.exchange_model.specs.World.{Act, MayHappenAt, World, folded_at, new_world, speaker_at, world_at}
use Rattle.exchange_model.specs.declared.what.What.TheVariants as what

-- what a script has led to: two ends with their modes, how many events were made, and whether a line was more than a
-- mode
pub record DrillState : Type 0 where
  pub world : World
  pub modes : List Mode
  pub events : ℕ
  pub begun : Bool

abbrev pub new_state : DrillState
new_state = record { world = new_world; modes = []; events = 0; begun = false }

-- what a line that can be stopped does where it isn't
unfoldable pub running_of : World → Stoppable → Doing
running_of world (Submit end mode load) = Does (asked end 0 (what.Submit mode (Some (codes "c")) (loads_of load)))
running_of world (Tick end moment) =
    Does (record { end = end; what = what.Tick; moment = Some moment; lost = false; number = 0 })
running_of world (Take end) = Does (asked end 0 what.Take)
running_of world (Came end from number) = comes end false (package_for end number world)
running_of world (Confirm end number) = Does (asked end number (what.Confirm number))

-- what a line does
unfoldable pub doing_of : World → Line → Doing
doing_of world (line.Mode name link way retries period) = Sets
doing_of world (line.Run l) = running_of world l
doing_of world (line.Ask end mode) = Does (asked end 0 (what.Ask mode))
doing_of world (line.Pair end mode number) = Does (asked end number (what.AskWith mode number))
doing_of world (line.Relay end mode) = Sets
doing_of world (line.Lost end from number) = comes end true (package_for end number world)
doing_of world (line.Read end number) = Does (asked end number (what.Read number))
doing_of world (line.Status end number) =
    tells end number (status_text number (codes "unknown")) (id_at end number world)
doing_of world (line.Crash end) = Reopens end
doing_of world (line.Stop call pick l) = stopped call pick (running_of world l)
doing_of world (line.Fold end) = Folds end

-- an event at an end, whose reply leaves or is lost: its nonce is its number among all events, its moment is the end's
-- where the line sets none
pub record IsActOf (ask : Asked) (loses : Bool) (old : DrillState) (act : Act) : Type 0 where
  pub at : act.site ≡ site_of ask.end
  pub modes : act.modes ≡ old.modes
  pub does : act.event.what ≡ ask.what
  pub stamp : act.event.stamp ≡ unwrap_or ask.moment (speaker_at (site_of ask.end) old.world).end.moment
  pub nonce : act.event.nonce ≡ old.events
  pub lost : act.lost ≡ loses
  pub may : MayHappenAt (site_of ask.end) act old.world

-- the event happens
pub record Makes (ask : Asked) (old : DrillState) (text : List ℕ) (new : DrillState) : Type 0 where
  pub act : Act
  pub is : IsActOf ask ask.lost old act
  pub says : text ≡ said_line ask.end
      (reply_text ask.number ask.lost (length (speaker_at (site_of ask.end) old.world).said) act.outcome.reply)
  pub leads : new ≡ record old { world = world_at (site_of ask.end) act old.world; events = old.events + 1; begun = true }

-- the step of an event that is stopped stands where it was stopped at the third or fourth of the four device calls that
-- put its record on the disk, and all that was written is left
abbrev pub stands : ℕ → Pick → Bool
stands call New = nat_le 3 call
stands call _ = false

-- the event is stopped, or ends before that where it writes less, and the disk of its end is opened again
pub record IsStopped (call : ℕ) (pick : Pick) (ask : Asked) (old : DrillState) (text : List ℕ) (new : DrillState) : Type 0 where
  pub act : Act
  pub is : IsActOf ask true old act
  pub says : text ≡ said_line ask.end (codes "reopened")
  pub leads : new ≡ record old {
    world = if stands call pick then world_at (site_of ask.end) act old.world else old.world;
    events = old.events + 1;
    begun = true;
  }

-- the journal of an end is folded where that makes it shorter
pub record IsFoldAt (end : EndName) (old : DrillState) (text : List ℕ) (new : DrillState) : Type 0 where
  pub world : World
  pub folds : MatchFold (speaker_at (site_of end) old.world).end (λ size. world ≡ folded_at (site_of end) size old.world) (world ≡ old.world)
  pub says : text ≡ said_line end (codes "folded")
  pub leads : new ≡ record old { world = world; begun = true }

-- what is done at an end, and what is written of it
abbrev pub Acts : Doing → DrillState → List ℕ → DrillState → Type 0
Acts Sets old text new = ⊥
Acts (Does ask) old text new = Makes ask old text new
Acts (Stops call pick ask) old text new = IsStopped call pick ask old text new
Acts (Reopens end) old text new = (text ≡ said_line end (codes "reopened")) × (new ≡ record old { begun = true })
Acts (Folds end) old text new = IsFoldAt end old text new
Acts (Says end words) old text new = (text ≡ said_line end words) × (new ≡ record old { begun = true })

-- what a line leads to, and what it writes
abbrev pub Plays : Line → Doing → DrillState → List ℕ → DrillState → Type 0
Plays (line.Mode name link way retries period) doing old text new =
    (mode : Mode) × IsDrillMode link name way retries period mode × (text ≡ [])
    × (new ≡ record old { modes = old.modes ++ mode ∷ [] })
Plays l doing old text new = Acts doing old text new

-- modes come first, at most 1,024, each name once
abbrev pub may_be_named : List ℕ → List Mode → Bool → Bool
may_be_named name modes begun =
    not begun && (nat_lt (length modes) 1024 && not (list_any (λ (mode : Mode). bytes_eq mode.name name) modes))

abbrev pub is_in_order : Line → List Mode → Bool → Bool
is_in_order (line.Mode name link way retries period) modes begun = may_be_named name modes begun
is_in_order l modes begun = true

-- it is a line of a pair, in its place
abbrev pub is_placed : Line → DrillState → Bool
is_placed l state = is_pair_line l && is_in_order l state.modes state.begun

-- how many events a script may make
abbrev pub events_limit : ℕ
events_limit = 100000

-- the line is in the grammar, within the limit and in its place
abbrev pub is_right : Line → DrillState → Bool
is_right l state = is_line l && (nat_le (length (line_text l)) line_limit && is_placed l state)

-- where so many events were made, this would be one too many
abbrev pub is_full_for : Doing → ℕ → Bool
is_full_for (Does ask) events = nat_le events_limit events
is_full_for (Stops call pick ask) events = nat_le events_limit events
is_full_for other events = false

-- the line would make one event too many
abbrev pub is_too_many : Line → DrillState → Bool
is_too_many l state = is_full_for (doing_of state.world l) state.events

-- these lines, one after another
abbrev pub PlaysAll : List Line → DrillState → List ℕ → DrillState → Type 0
PlaysAll [] old text new = (text ≡ []) × (new ≡ old)
PlaysAll (l ∷ lines) old text new =
    (mid : DrillState) × (words : List ℕ) × (rest : List ℕ) × IsTrue (is_right l old) × (is_too_many l old ≡ false)
    × Plays l (doing_of old.world l) old words mid × PlaysAll lines mid rest new × (text ≡ words ++ rest)

-- each line ends in LF
abbrev pub script_text : List Line → List ℕ
script_text lines = flat_map (λ l. line_text l ++ 10 ∷ []) lines

-- how many lines a script may have
abbrev pub lines_limit : ℕ
lines_limit = 1000000

-- the numbers of both ends
abbrev pub end_lines : World → List ℕ
end_lines world = end_line name.A world.left.end ++ end_line name.B world.right.end
