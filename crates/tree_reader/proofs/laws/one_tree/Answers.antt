use Rattle.tree_reader.proofs.UniqueLemmas as unique
use Rattle.tree_reader.proofs.laws.one_tree.Goals as goal

pub returns : goal.returns
returns c = λ bytes one other first second. unique.one_tree bytes one other first second
