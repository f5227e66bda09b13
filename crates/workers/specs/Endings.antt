-- How a turn goes on after what it did.
use Rattle.std.specs.Prelude.{Bool, true, false, if◌then◌else◌}
use Rattle.rounds.specs.declared.pulling.Pulled.{Pulled}
use Rattle.sessions.specs.declared.ended.Ended.{Ended}
use Rattle.sessions.specs.declared.ended.Ended.TheVariants as ended
use Rattle.sessions.specs.declared.rounds.RoundEnd.{RoundEnd}
use Rattle.sessions.specs.declared.rounds.RoundEnd.TheVariants as round
use Rattle.workers.specs.declared.turn.Turn.{Turn}
use Rattle.workers.specs.declared.turn.Turn.TheVariants.{Worked, Idle, Starved, Closed}

-- memory ran out
abbrev pub session_starves : Ended → Bool
session_starves ended.NoMemory = true
session_starves other = false

abbrev pub round_starves : RoundEnd → Bool
round_starves round.NoMemory = true
round_starves other = false

-- no message was taken, or the endpoint can't go on
abbrev pub is_idle : RoundEnd → Bool
is_idle round.Nothing = true
is_idle (round.DiskFault before after) = true
is_idle (round.Stopped before after) = true
is_idle (round.Full size need) = true
is_idle round.Worn = true
is_idle other = false

-- after a session
abbrev pub after_session : Ended → Turn
after_session end = if session_starves end then Starved else Worked

-- after a round that pushes
abbrev pub after_push : RoundEnd → Turn
after_push end = if round_starves end then Starved else if is_idle end then Idle else Worked

-- after a round that pulls: there is nothing more to do if no message came that was answered
abbrev pub after_pull : Pulled → Turn
after_pull by = if round_starves by.end then Starved else if by.received then Worked else Idle

-- whether a worker may make a further turn
abbrev pub goes_on : Turn → Bool
goes_on Closed = false
goes_on other = true
