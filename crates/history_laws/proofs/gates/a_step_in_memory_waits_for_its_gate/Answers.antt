use Rattle.history_laws.proofs.GateLemmas.{by_gate, fails_by_gate}
use Rattle.history_laws.proofs.gates.a_step_in_memory_waits_for_its_gate.Goals as goal

pub returns-clause-replied : goal.returns-clause-replied
returns-clause-replied c = by_gate c.an_image_opens_to_one_end.ensures.read c.an_image_opens_to_one_end.ensures.whole c.an_event_has_one_outcome.ensures

pub returns-clause-failed : goal.returns-clause-failed
returns-clause-failed c = fails_by_gate c.an_image_opens_to_one_end.ensures.read c.an_image_opens_to_one_end.ensures.whole c.an_event_has_one_outcome.ensures
