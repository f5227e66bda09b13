use Rattle.as4_tool.proofs.DrillLemmas.{chain_played, pair_played}
use Rattle.as4_tool.proofs.drilling.play.Goals as goal

pub returns-in-Pair : goal.returns-in-Pair
returns-in-Pair g c =
    rw (c.in-Pair.is, c.of_drill.ensures) (pair_played c.drill.result _ c.drill.ensures.ends c.drill.ensures.counted)

pub returns-in-Hub : goal.returns-in-Hub
returns-in-Hub g c =
    rw (c.in-Hub.is, c.of_drill-in-Hub.ensures) (chain_played c.hub_drill.result _ c.hub_drill.ensures.ends c.hub_drill.ensures.counted)
