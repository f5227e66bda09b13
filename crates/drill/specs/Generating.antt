-- On the way to the world that a seed and a count generate.
use Rattle.std.specs.Prelude.{◌≡◌, ℕ, ◌+◌, ◌≤◌, [], ◌∷◌, Bool, true, false, ◌&&◌, None, Option, Some, length}
use Rattle.std.specs.List.{count_by}
use Rattle.as4_effects.specs.declared.queue.Queue.TheVariants as queue
use Rattle.drill.specs.Generated.{Leads, Pushes, PushesNone, counted, transmission}
use Rattle.drill_world.specs.Transcript.{DrillState}
use Rattle.drill_script.specs.declared.line.EndName.TheVariants as name
use Rattle.drill_script.specs.declared.line.Line.TheVariants as line
use Rattle.drill_script.specs.declared.line.Stoppable.TheVariants as run
use Rattle.exchange_model.specs.End.{End}
use Rattle.exchange_model.specs.Questions.{is_in, is_ready}
use Rattle.exchange_model.specs.declared.sent.Sent.{Sent}

-- whether a message is pushed
abbrev pub IsPushed : Bool → End → Type 0
IsPushed true end = Pushes end
IsPushed false end = PushesNone end

-- a transmission was played, with the counter behind it, or nothing was pushed
abbrev pub PlaysTransmission : ℕ → DrillState → DrillState → Option ℕ → Type 0
PlaysTransmission c old new None = PushesNone old.world.left.end × Leads (line.Run (run.Take name.A) ∷ []) old new
PlaysTransmission c old new (Some later) =
    (later ≡ counted c) × Pushes old.world.left.end
    × Leads (transmission c (length old.world.left.said) (length old.world.right.said)) old new

-- a submission may be pushed now
abbrev pub may_be_pushed : ℕ → Sent → Bool
may_be_pushed moment s = is_ready moment s && is_in queue.Push s

-- how many may
abbrev pub to_push : End → ℕ
to_push end = count_by (may_be_pushed end.moment) end.sent

-- how many messages were handed in at end a
abbrev pub handed : DrillState → ℕ
handed state = length state.world.left.end.sent

-- so many events more at most, and so many messages more that were handed in at end a
abbrev pub Grows : ℕ → ℕ → DrillState → DrillState → Type 0
Grows events messages old new = (new.events ≤ old.events + events) × (handed new ≤ handed old + messages)
