use Rattle.fold_laws.proofs.SomeFold.{reached_written}
use Rattle.fold_laws.proofs.laws.a_reached_end_can_be_written.Goals as goal

pub returns : goal.returns
returns c = reached_written
