use Rattle.submitted_laws.proofs.DoorLemmas.{door_submits_shortly}
use Rattle.submitted_laws.proofs.laws.the_local_door_submits_shortly.Goals as goal

pub returns : goal.returns
returns c = door_submits_shortly
