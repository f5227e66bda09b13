use Rattle.fold_laws.proofs.SomeFold.{reached_written, some_fold}
use Rattle.fold_laws.proofs.laws.a_reached_end_has_a_fold.Goals as goal

pub returns : goal.returns
returns c end reached = some_fold end (reached_written end reached)
