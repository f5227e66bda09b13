use Rattle.history_laws.proofs.InsideLemmas.{joins, same_left}
use Rattle.history_laws.proofs.laws.a_cut_off_call_leaves_the_same.Goals as goal

pub returns-clause-same : goal.returns-clause-same
returns-clause-same c = same_left

pub returns-clause-joins : goal.returns-clause-joins
returns-clause-joins c = joins
