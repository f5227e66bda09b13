use Rattle.payload_gates.specs.Gates.{IsHeldIn}
use Rattle.payload_gates.proofs.OpenLemmas.{each_emptied}
use Rattle.payload_gates.proofs.laws.a_confirmation_opens_no_entry.Goals as goal

pub returns : goal.returns
returns c gate_of records confirmed count places inbox more each =
    each_emptied (IsHeldIn gate_of records) confirmed count places inbox more each
