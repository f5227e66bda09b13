use Rattle.msh_core.proofs.FoldLemmas.{kept_fits}
use Rattle.msh_core.proofs.folding.kept_header.Goals as goal

pub invariant_of-result : goal.invariant_of-result
invariant_of-result c = record {
  fits = kept_fits c.args.tables.now.end c.args.place c.in-Some.header.now c.in_ok-header.header c.requires.written c.requires.taken_over
      (rw c.in-Some.is at c.header.ensures) c.in_ok-header.ensures;
}
