use Rattle.std.proofs.Common.{◌<◌, subst}
use Rattle.conformance.proofs.CutLemmas.{decides}
use Rattle.conformance.proofs.heads.is_cut.Goals as goal

pub returns-else-ended_lines : goal.returns-else-ended_lines
returns-else-ended_lines c =
    decides c.args.stream.now c.has_head.result c.requires (subst (λ n. 129 < n) c.ended_lines.ensures c.if-ended_lines.false) c.has_head.ensures.yes c.has_head.ensures.no
