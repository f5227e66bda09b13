use Rattle.std.proofs.Common.{arith}
use Rattle.conformance.proofs.CutLemmas.{target_from, target_line}
use Rattle.conformance.proofs.heads.is_in_target.Goals as goal

pub returns-then-bytes-le-MAX_HEAD : goal.returns-then-bytes-le-MAX_HEAD
returns-then-bytes-le-MAX_HEAD c =
    let parts = c.after_empty_lines.ensures.parts in (
      λ yes. (target_from c.args.bytes.now c.after_empty_lines.result.now parts (c.ends_in_target.ensures.0 yes), omega arith),
      λ is. c.ends_in_target.ensures.1 (target_line c.args.bytes.now c.after_empty_lines.result.now parts c.after_empty_lines.ensures.none is.0),
    )
