use Rattle.msh_core.proofs.FoldSizeLemmas.{kept_sum}
use Rattle.msh_core.proofs.folding.kept_size.Goals as goal

pub returns : goal.returns
returns c =
    kept_sum c.args.sum c.saturating_add.result c.add_len.result c.saturating_add-2.result c.in-Some.header.now _
    (rw c.in-Some.is at c.header.ensures) c.saturating_add.ensures c.add_len.ensures c.saturating_add-2.ensures
