use Rattle.payload_gates.specs.Gates.{IsHeldIn}
use Rattle.payload_gates.proofs.RecordLemmas.{each_other, others_leave}
use Rattle.payload_gates.proofs.laws.other_effects_leave_the_places.Goals as goal

pub returns-clause-places : goal.returns-clause-places
returns-clause-places c = others_leave

pub returns-clause-held : goal.returns-clause-held
returns-clause-held c gate_of records effect places end nothing fits each =
    each_other (IsHeldIn gate_of records) effect places end nothing fits each
