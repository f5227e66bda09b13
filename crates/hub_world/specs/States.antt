-- What the state of a drill of a chain keeps, and what becomes of what a line does.
use Rattle.std.specs.Prelude.{◌≡◌, ℕ, ◌≤◌, List, Bool, true, false, Ok, Err, None, Option, Result, Some}
use Rattle.mode_values.specs.declared.mode.Mode.{Mode}
use Rattle.drill_script.specs.declared.line.Line.{Line}
use Rattle.drill_script.specs.declared.line.Line.TheVariants as line
use Rattle.drill_texts.specs.Modes.{AreDrillModes}
use Rattle.drill_world.specs.Transcript.{events_limit}
use Rattle.drill_world.specs.declared.endpoint.StopAt.{StopAt}
use Rattle.drill_world.specs.declared.refused.Refused.{Refused}
use Rattle.drill_world.specs.declared.refused.Refused.TheVariants as refused
use Rattle.hub_world.specs.Ends.{TrioState, new_ends}
use Rattle.hub_world.specs.Transcript.{Acts, Doing, HubState, is_full_for, stopped}

-- the modes are those of a script, and all endpoints have them once a line was more than a mode
pub record IsSound (modes : List Mode) (trio : TrioState) (events : ℕ) (begun : Bool) : Type 0 where
  pub made : AreDrillModes modes
  pub few : events ≤ events_limit
  pub shared : begun ≡ true → trio.modes ≡ modes
  pub new : begun ≡ false → (trio.ends ≡ new_ends) × (events ≡ 0)

-- a line of a chain that does something at an endpoint
abbrev pub IsInChain : Line → Type 0
IsInChain (line.Mode called on way retries period) = ⊥
IsInChain (line.Pair end called number) = ⊥
IsInChain (line.Fold end) = ⊥
IsInChain other = Unit {0}

-- it is done, or stopped
abbrev pub until : Option StopAt → Doing → Doing
until None doing = doing
until (Some at) doing = stopped at.call at.pick doing

-- it is done, or it would make one event too many, or memory ran out where it wouldn't
abbrev pub Performs : Doing → HubState → Result (List ℕ) Refused → HubState → Type 0
Performs doing old (Ok text) new = Acts doing old text new × (is_full_for doing old.events ≡ false)
Performs doing old (Err refused.TooMany) new = is_full_for doing old.events ≡ true
Performs doing old (Err refused.Wrong) new = ⊥
Performs doing old (Err refused.NoMemory) new = is_full_for doing old.events ≡ false
