use Rattle.history_laws.proofs.GateLemmas.{calls_found, stands}
use Rattle.history_laws.proofs.gates.a_step_stands_by_its_gate.Goals as goal

pub returns-clause-stands : goal.returns-clause-stands
returns-clause-stands g c = stands c.an_image_opens_to_one_end.ensures.read c.an_image_opens_to_one_end.ensures.whole g.D.Disk

pub returns-clause-calls : goal.returns-clause-calls
returns-clause-calls g c = calls_found c.an_image_opens_to_one_end.ensures.read c.an_image_opens_to_one_end.ensures.whole
