use Rattle.exchange_model.specs.World.{sends}
use Rattle.exchange_laws.proofs.ListLemmas.{has_contained}
use Rattle.exchange_laws.proofs.SendsLemmas.{step_sends}
use Rattle.exchange_laws.proofs.laws.what_is_sent_may_come.Goals as goal

pub returns : goal.returns
returns c modes end event outcome step message said =
    step_sends modes end event outcome step message (has_contained (sends outcome.reply) message said)
