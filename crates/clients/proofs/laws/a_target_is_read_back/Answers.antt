use Rattle.clients.proofs.TargetLemmas.{submit_pieces}
use Rattle.clients.proofs.laws.a_target_is_read_back.Goals as goal

pub returns : goal.returns
returns c = submit_pieces
