use Rattle.msh_recovery.proofs.UnfitLemmas.{one_place}
use Rattle.msh_recovery.proofs.laws.a_leaf_is_no_journal_at_one_place.Goals as goal

pub returns : goal.returns
returns c leaf a b first other = one_place c.one_body.ensures leaf a b first other
