use Rattle.history_laws.proofs.TwoLemmas.{act_turn, fold_turn}
use Rattle.history_laws.proofs.laws.what_may_happen_is_a_turn.Goals as goal

pub returns-clause-act : goal.returns-clause-act
returns-clause-act c = act_turn

pub returns-clause-compaction : goal.returns-clause-compaction
returns-clause-compaction c = fold_turn
