use Rattle.hub_laws.proofs.GoingOnLemmas.{goes_on_acting, goes_on_folding, goes_on_joined, goes_on_relaying, goes_on_resting}
use Rattle.hub_laws.proofs.laws.a_chain_goes_on.Goals as goal

pub returns : goal.returns
returns c = record {
  rests = goes_on_resting;
  relays = goes_on_relaying;
  acts = goes_on_acting;
  folds = goes_on_folding;
  joins = goes_on_joined;
}
