use Rattle.exchange_model.specs.World.{sends}
use Rattle.exchange_laws.proofs.ListLemmas.{has_contained}
use Rattle.exchange_laws.proofs.AskedLemmas.{step_asked}
use Rattle.exchange_laws.proofs.laws.what_is_handed_out_was_asked_for.Goals as goal

pub returns : goal.returns
returns c act end header payloads step said = step_asked act end header payloads step (has_contained (sends act.outcome.reply) _ said)
