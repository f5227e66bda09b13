use Rattle.conformance.proofs.CutLemmas.{blank_more}
use Rattle.conformance.proofs.heads.after_empty_lines.Goals as goal

pub loop-next-preserved : goal.loop-next-preserved
loop-next-preserved c = blank_more c.args.bytes.now _ c.in-Some.next.now c.loop-next.invariant c.in-Some.ensures.some
