use Rattle.coming_laws.proofs.ComingLemmas.{message_may_come}
use Rattle.coming_laws.proofs.laws.a_read_message_may_come.Goals as goal

pub returns : goal.returns
returns c = message_may_come
