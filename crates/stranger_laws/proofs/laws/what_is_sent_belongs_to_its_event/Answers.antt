use Rattle.stranger_laws.proofs.BelongingLemmas.{sent_belongs}
use Rattle.stranger_laws.proofs.laws.what_is_sent_belongs_to_its_event.Goals as goal

pub returns : goal.returns
returns c = sent_belongs
