use Rattle.tree_reader.proofs.CanonicalLemmas as canonical
use Rattle.tree_reader.proofs.laws.text_is_document.Goals as goal

pub returns : goal.returns
returns c = λ tree writable names short. canonical.text_is_document tree writable names short
