use Rattle.tree_reader.proofs.ApartLemmas.{few_differ}
use Rattle.tree_reader.proofs.apart.names_differ.Goals as goal

pub returns-in-empty : goal.returns-in-empty
returns-in-empty c = few_differ c.args.attributes.now c.in-empty.len_below
