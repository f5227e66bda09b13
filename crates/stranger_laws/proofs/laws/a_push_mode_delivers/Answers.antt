use Rattle.stranger_laws.proofs.DeliveryLemmas.{delivers}
use Rattle.stranger_laws.proofs.laws.a_push_mode_delivers.Goals as goal

pub returns : goal.returns
returns c = delivers
