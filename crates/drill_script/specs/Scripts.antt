-- Which lines a script of a pair has, the endpoints a and b, and a script of a chain, the endpoints f, h and l.
use Rattle.std.specs.Prelude.{Bool, true, false, ◌&&◌, Option, Some, None, is_none}
use Rattle.drill_script.specs.declared.line.EndName.{EndName}
use Rattle.drill_script.specs.declared.line.EndName.TheVariants.{A, B, First, Hub, Last}
use Rattle.drill_script.specs.declared.line.Line.{Line}
use Rattle.drill_script.specs.declared.line.Line.TheVariants as line
use Rattle.drill_script.specs.declared.line.LinkName.{LinkName}
use Rattle.drill_script.specs.declared.line.LinkName.TheVariants.{Front, Rear}
use Rattle.drill_script.specs.declared.line.Stoppable.{Stoppable}
use Rattle.drill_script.specs.declared.line.Stoppable.TheVariants.{Submit, Tick, Take, Came, Confirm}
use Rattle.drill_script.specs.declared.line.Way.{Way}
use Rattle.drill_script.specs.declared.line.Way.TheVariants.{Push, Pull}

abbrev pub is_of_pair : EndName → Bool
is_of_pair A = true
is_of_pair B = true
is_of_pair other = false

abbrev pub is_of_chain : EndName → Bool
is_of_chain First = true
is_of_chain Hub = true
is_of_chain Last = true
is_of_chain other = false

-- the endpoints of a chain that submit
abbrev pub is_sender : EndName → Bool
is_sender First = true
is_sender Hub = true
is_sender other = false

-- the endpoints of a chain whose inbox is read
abbrev pub is_receiver : EndName → Bool
is_receiver Hub = true
is_receiver Last = true
is_receiver other = false

abbrev pub is_first : EndName → Bool
is_first First = true
is_first other = false

abbrev pub is_hub : EndName → Bool
is_hub Hub = true
is_hub other = false

abbrev pub is_last : EndName → Bool
is_last Last = true
is_last other = false

-- a line of a pair doesn't say from whom a package comes, and one of a chain does
abbrev pub arrives_in_chain : EndName → Option EndName → Bool
arrives_in_chain end None = false
arrives_in_chain end (Some from) = is_of_chain end && is_of_chain from

-- a mode of a chain is of a link; the first endpoint only pushes
abbrev pub is_linked : Option LinkName → Way → Bool
is_linked None way = false
is_linked (Some Front) Push = true
is_linked (Some Front) Pull = false
is_linked (Some Rear) way = true

abbrev pub is_pair_run : Stoppable → Bool
is_pair_run (Submit end mode load) = is_of_pair end
is_pair_run (Tick end moment) = is_of_pair end
is_pair_run (Take end) = is_of_pair end
is_pair_run (Came end from number) = is_of_pair end && is_none from
is_pair_run (Confirm end number) = is_of_pair end

-- a script of a pair has this line
unfoldable pub is_pair_line : Line → Bool
is_pair_line (line.Mode name link way retries period) = is_none link
is_pair_line (line.Run l) = is_pair_run l
is_pair_line (line.Ask end mode) = is_of_pair end
is_pair_line (line.Pair end mode number) = is_of_pair end
is_pair_line (line.Relay end mode) = false
is_pair_line (line.Lost end from number) = is_of_pair end && is_none from
is_pair_line (line.Read end number) = is_of_pair end
is_pair_line (line.Status end number) = is_of_pair end
is_pair_line (line.Crash end) = is_of_pair end
is_pair_line (line.Stop call pick l) = is_pair_run l
is_pair_line (line.Fold end) = is_of_pair end

-- the first endpoint submits; it and the hub send; the hub and the last endpoint confirm
abbrev pub is_chain_run : Stoppable → Bool
is_chain_run (Submit end mode load) = is_first end
is_chain_run (Tick end moment) = is_of_chain end
is_chain_run (Take end) = is_sender end
is_chain_run (Came end from number) = arrives_in_chain end from
is_chain_run (Confirm end number) = is_receiver end

-- a script of a chain has this line: the hub relays, the last endpoint asks, and no journal is compacted
unfoldable pub is_chain_line : Line → Bool
is_chain_line (line.Mode name link way retries period) = is_linked link way
is_chain_line (line.Run l) = is_chain_run l
is_chain_line (line.Ask end mode) = is_last end
is_chain_line (line.Pair end mode number) = false
is_chain_line (line.Relay end mode) = is_hub end
is_chain_line (line.Lost end from number) = arrives_in_chain end from
is_chain_line (line.Read end number) = is_receiver end
is_chain_line (line.Status end number) = is_sender end
is_chain_line (line.Crash end) = is_of_chain end
is_chain_line (line.Stop call pick l) = is_chain_run l
is_chain_line (line.Fold end) = false
