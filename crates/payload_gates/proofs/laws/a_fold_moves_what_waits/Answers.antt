use Rattle.payload_gates.proofs.FoldLemmas.{moves_what_waits}
use Rattle.payload_gates.proofs.laws.a_fold_moves_what_waits.Goals as goal

pub returns : goal.returns
returns c gate_of end effects gates places folded are = moves_what_waits gate_of end effects gates folded are places
