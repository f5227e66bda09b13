use Rattle.drill.proofs.KindLemmas.{pair_more}
use Rattle.drill.proofs.play.DrillStatePlay.laws.Goals as goal

pub returns-clause-more : goal.returns-clause-more
returns-clause-more c = pair_more
