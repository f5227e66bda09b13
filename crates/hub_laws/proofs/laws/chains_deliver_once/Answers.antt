use Rattle.hub_laws.specs.Chain.{chain_after, new_chain}
use Rattle.hub_laws.proofs.ChainLemmas.{chain_holds, new_chain_holds}
use Rattle.hub_laws.proofs.DeliveredLemmas.{delivers_through}
use Rattle.hub_laws.proofs.laws.chains_deliver_once.Goals as goal

pub returns : goal.returns
returns c all may = delivers_through (chain_after all new_chain) (chain_holds all new_chain new_chain_holds may)
