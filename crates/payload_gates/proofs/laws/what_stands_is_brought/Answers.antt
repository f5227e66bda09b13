use Rattle.payload_gates.specs.Gates.{IsHeldIn}
use Rattle.payload_gates.proofs.OpenLemmas.{each_at}
use Rattle.payload_gates.proofs.laws.what_stands_is_brought.Goals as goal

pub returns : goal.returns
returns c gate_of records confirmed n places inbox spot entry =
    each_at (IsHeldIn gate_of records) confirmed n places inbox spot entry
