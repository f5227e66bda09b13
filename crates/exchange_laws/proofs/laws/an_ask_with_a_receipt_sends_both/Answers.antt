use Rattle.exchange_laws.proofs.AskedLemmas.{asks_pair}
use Rattle.exchange_laws.proofs.laws.an_ask_with_a_receipt_sends_both.Goals as goal

pub returns : goal.returns
returns c = asks_pair
