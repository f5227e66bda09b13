use Rattle.as4_disk.proofs.StopLemmas.{run_stops}
use Rattle.as4_disk.proofs.memory.a_stopped_run_is_known.Goals as goal

pub returns : goal.returns
returns c = run_stops
