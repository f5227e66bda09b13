use Rattle.history_laws.proofs.CallLemmas.{compacts_stop, handles_stop}
use Rattle.history_laws.proofs.inside.a_call_leaves_what_its_stop_would.Goals as goal

pub returns-clause-handles : goal.returns-clause-handles
returns-clause-handles g c = handles_stop g.D.Disk

pub returns-clause-compacts : goal.returns-clause-compacts
returns-clause-compacts g c = compacts_stop g.D.Disk
