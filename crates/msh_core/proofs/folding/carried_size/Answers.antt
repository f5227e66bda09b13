use Rattle.msh_core.proofs.FoldSizeLemmas.{carried_sum}
use Rattle.msh_core.proofs.folding.carried_size.Goals as goal

pub returns : goal.returns
returns c =
    carried_sum c.args.sum c.add_len.result c.saturating_add-sum.result c.add_len-2.result c.saturating_add.result
    c.in-Some.submission.now c.in-Some-mark.mark.now _ (rw c.in-Some.is at c.get.ensures) (rw c.in-Some-mark.is at c.mark.ensures)
    c.add_len.ensures c.saturating_add-sum.ensures c.add_len-2.ensures c.saturating_add.ensures
