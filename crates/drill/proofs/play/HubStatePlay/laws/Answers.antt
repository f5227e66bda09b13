use Rattle.drill.proofs.KindLemmas.{chain_more}
use Rattle.drill.proofs.play.HubStatePlay.laws.Goals as goal

pub returns-clause-more : goal.returns-clause-more
returns-clause-more c = chain_more
