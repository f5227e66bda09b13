use Rattle.tree_reader.proofs.ApartLemmas.{NextDiffer}
use Rattle.tree_reader.proofs.apart.all_differ.Given as goal

-- the names so far differ, each from the next
abbrev pub invariant-loop-at : goal.invariant-loop-at
invariant-loop-at l = NextDiffer l.names l.at
