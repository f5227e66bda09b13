use Rattle.msh_core.specs.Folding.{kept_len}
use Rattle.msh_core.proofs.FoldSizeLemmas.{next_sum}
use Rattle.msh_core.proofs.folding.taken_over_size.Goals as goal

pub loop-place-preserved : goal.loop-place-preserved
loop-place-preserved c =
    next_sum kept_len c.args.tables.now.end.inbox c.loop-place.place c.args.sum c.loop-place.total c.kept_size-total.result
    c.loop-place.invariant c.kept_size-total.ensures
