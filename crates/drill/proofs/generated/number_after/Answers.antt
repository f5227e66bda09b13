use Rattle.drill.proofs.GeneratedLemmas.{next_is}
use Rattle.drill.proofs.generated.number_after.Goals as goal

pub returns : goal.returns
returns c = next_is c.args.number
