-- What the state of a drill keeps, and what becomes of what a line does.
use Rattle.std.specs.Prelude.{◌≡◌, ℕ, ◌≤◌, List, Bool, true, false, Ok, Err, None, Option, Result, Some}
use Rattle.mode_values.specs.declared.mode.Mode.{Mode}
use Rattle.drill_world.specs.Events.{Doing, stopped}
use Rattle.drill_world.specs.Endpoints.{EndpointState}
use Rattle.drill_world.specs.Transcript.{Acts, DrillState, events_limit, is_full_for}
use Rattle.drill_world.specs.declared.endpoint.StopAt.{StopAt}
use Rattle.drill_world.specs.declared.refused.Refused.{Refused}
use Rattle.drill_world.specs.declared.refused.Refused.TheVariants as refused
use Rattle.drill_script.specs.declared.line.Line.{Line}
use Rattle.drill_script.specs.declared.line.Line.TheVariants as line
use Rattle.drill_texts.specs.Modes.{AreDrillModes}
use Rattle.exchange_model.specs.World.{Left, Speaker, Right, Site, World, new_speaker, speaker_at}

-- the modes are those of a script, and both ends have them once a line was more than a mode
pub record IsSound (modes : List Mode) (left right : EndpointState) (events : ℕ) (begun : Bool) : Type 0 where
  pub made : AreDrillModes modes
  pub few : events ≤ events_limit
  pub shared : begun ≡ true → (left.modes ≡ modes) × (right.modes ≡ modes)
  pub new : begun ≡ false → (left.speaker ≡ new_speaker) × (right.speaker ≡ new_speaker) × (events ≡ 0)

-- a line of a pair that does something at an end
abbrev pub IsAtEnd : Line → Type 0
IsAtEnd (line.Mode name link way retries period) = ⊥
IsAtEnd (line.Relay end mode) = ⊥
IsAtEnd other = Unit {0}

-- what the end at a site is
abbrev pub endpoint_at : Site → DrillState → EndpointState
endpoint_at site state = record { speaker = speaker_at site state.world; modes = state.modes }

-- a speaker stands at a site
abbrev pub world_with : Site → Speaker → World → World
world_with Left speaker world = record world { left = speaker }
world_with Right speaker world = record world { right = speaker }

-- it is one of the device calls of a step
abbrev pub IsCall : StopAt → Type 0
IsCall at = (1 ≤ at.call) × (at.call ≤ 4)

-- it is done, or stopped
abbrev pub until : Option StopAt → Doing → Doing
until None doing = doing
until (Some at) doing = stopped at.call at.pick doing

-- it is done, or it would make one event too many, or memory ran out where it wouldn't
abbrev pub Performs : Doing → DrillState → Result (List ℕ) Refused → DrillState → Type 0
Performs doing old (Ok text) new = Acts doing old text new × (is_full_for doing old.events ≡ false)
Performs doing old (Err refused.TooMany) new = is_full_for doing old.events ≡ true
Performs doing old (Err refused.Wrong) new = ⊥
Performs doing old (Err refused.NoMemory) new = is_full_for doing old.events ≡ false
