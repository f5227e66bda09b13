use Rattle.fold_laws.proofs.OneFold.{one_fold}
use Rattle.fold_laws.proofs.laws.an_end_has_one_fold.Goals as goal

pub returns : goal.returns
returns c = one_fold
