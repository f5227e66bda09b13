use Rattle.exchange_laws.proofs.AskedLemmas.{asks_pull}
use Rattle.exchange_laws.proofs.laws.an_ask_sends_a_pull_request.Goals as goal

pub returns : goal.returns
returns c = asks_pull
