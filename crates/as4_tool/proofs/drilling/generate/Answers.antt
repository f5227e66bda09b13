use Rattle.as4_tool.proofs.DrillLemmas.{generated}
use Rattle.as4_tool.proofs.drilling.generate.Goals as goal

pub returns : goal.returns
returns g c left reads =
    rw c.of_drill.ensures (generated c.args.seed c.args.count c.generate.result left reads _ _ _ _ c.generate.ensures.ends c.generate.ensures.counted)
