use Rattle.journal.proofs.BrokenLemmas.{lists_unbroken}
use Rattle.journal.proofs.leaf.no_listed_leaf_is_broken.Goals as goal

pub returns : goal.returns
returns c leaf at bodies broken lists = lists_unbroken leaf at bodies broken lists
