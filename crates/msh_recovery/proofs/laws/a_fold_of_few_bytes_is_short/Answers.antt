use Rattle.msh_recovery.proofs.BoundLemmas.{short_fold}
use Rattle.msh_recovery.proofs.laws.a_fold_of_few_bytes_is_short.Goals as goal

pub returns : goal.returns
returns c bodies end size leads folded = short_fold bodies end size leads folded
