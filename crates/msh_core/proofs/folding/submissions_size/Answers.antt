use Rattle.msh_core.proofs.FoldSizeLemmas.{next_sent}
use Rattle.msh_core.proofs.folding.submissions_size.Goals as goal

pub loop-number-preserved : goal.loop-number-preserved
loop-number-preserved c =
    next_sent c.args.tables.now.end.sent c.loop-number.number c.args.sum c.loop-number.total c.carried_size-total.result
    c.submitted-number-end.ensures.numbered c.loop-number.invariant c.carried_size-total.ensures
