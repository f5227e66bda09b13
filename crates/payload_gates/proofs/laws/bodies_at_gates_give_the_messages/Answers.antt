use Rattle.payload_gates.proofs.BodyLemmas.{lifted_same}
use Rattle.payload_gates.proofs.laws.bodies_at_gates_give_the_messages.Goals as goal

pub returns : goal.returns
returns c = lifted_same
