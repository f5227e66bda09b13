use Rattle.std.proofs.Common.{◌+◌, ap, ◌∙◌}
use Rattle.std.specs.List.{slice_get}
use Rattle.msh_core.specs.Folding.{capped, delivered_len, len_at}
use Rattle.msh_core.proofs.FoldSizeLemmas.{next_waiting}
use Rattle.msh_core.proofs.folding.waiting_size.Goals as goal

pub loop-count-preserved : goal.loop-count-preserved
loop-count-preserved c =
    let end = c.args.tables.now.end in
    next_waiting end.inbox end.confirmed c.loop-count.count c.args.sum c.loop-count.total c.delivered_size-total.result
    c.loop-count.invariant
    (c.delivered_size-total.ensures
    ∙ ap (λ n. capped (c.loop-count.total + len_at delivered_len (slice_get end.inbox (n + c.loop-count.count)))) c.confirmed-confirmed.ensures.value)
