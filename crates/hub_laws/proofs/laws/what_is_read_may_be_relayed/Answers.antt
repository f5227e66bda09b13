use Rattle.hub_laws.proofs.GoingOnLemmas.{relays_read}
use Rattle.hub_laws.proofs.laws.what_is_read_may_be_relayed.Goals as goal

pub returns : goal.returns
returns c = relays_read
