use Rattle.fold_laws.proofs.ReachedLemmas.{reached_first, reached_applied, reached_resized}
use Rattle.fold_laws.proofs.laws.what_fits_goes_on.Goals as goal

pub returns-clause-starts : goal.returns-clause-starts
returns-clause-starts c = reached_first

pub returns-clause-fits : goal.returns-clause-fits
returns-clause-fits c = reached_applied

pub returns-clause-folds : goal.returns-clause-folds
returns-clause-folds c = reached_resized
