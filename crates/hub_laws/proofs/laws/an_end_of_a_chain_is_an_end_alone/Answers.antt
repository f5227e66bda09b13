use Rattle.hub_laws.specs.Chain.{new_chain}
use Rattle.hub_laws.proofs.SeatLemmas.{alone}
use Rattle.hub_laws.proofs.laws.an_end_of_a_chain_is_an_end_alone.Goals as goal

pub returns : goal.returns
returns c = record {
  may = λ seat all may. (alone seat all new_chain may).may;
  leads = λ seat all may. (alone seat all new_chain may).leads;
}
