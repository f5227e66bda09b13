use Rattle.history_laws.proofs.OpeningLemmas.{keeps_over, receipted_over}
use Rattle.history_laws.proofs.laws.a_receipted_message_is_held_over_openings.Goals as goal

pub returns-clause-kept : goal.returns-clause-kept
returns-clause-kept c = keeps_over c.openings_may_happen.ensures

pub returns-clause-receipted : goal.returns-clause-receipted
returns-clause-receipted c = receipted_over c.openings_may_happen.ensures
