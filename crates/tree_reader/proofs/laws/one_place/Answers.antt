use Rattle.tree_reader.proofs.UniqueLemmas as unique
use Rattle.tree_reader.proofs.laws.one_place.Goals as goal

pub returns : goal.returns
returns c = λ most bytes at other here there. unique.one_place most bytes at other here there
