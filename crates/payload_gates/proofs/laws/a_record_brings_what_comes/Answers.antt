use Rattle.payload_gates.proofs.RecordLemmas.{brings_what_comes}
use Rattle.payload_gates.proofs.laws.a_record_brings_what_comes.Goals as goal

pub returns : goal.returns
returns c = brings_what_comes
