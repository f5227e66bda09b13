use Rattle.history_laws.proofs.HoldingLemmas.{delivered_held, receipted_known}
use Rattle.history_laws.proofs.KeepingLemmas.{keeps_calls}
use Rattle.history_laws.proofs.laws.what_came_stays_from_any_start.Goals as goal

pub returns-clause-kept : goal.returns-clause-kept
returns-clause-kept c = keeps_calls

pub returns-clause-receipted : goal.returns-clause-receipted
returns-clause-receipted c = receipted_known

pub returns-clause-delivered : goal.returns-clause-delivered
returns-clause-delivered c = delivered_held
