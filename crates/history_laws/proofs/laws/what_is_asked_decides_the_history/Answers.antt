use Rattle.history_laws.proofs.AskingLemmas.{decides, decides_unseen}
use Rattle.history_laws.proofs.laws.what_is_asked_decides_the_history.Goals as goal

pub returns-clause-known : goal.returns-clause-known
returns-clause-known c = decides c.an_event_has_one_outcome.ensures c.an_end_has_one_fold.ensures

pub returns-clause-unseen : goal.returns-clause-unseen
returns-clause-unseen c = decides_unseen c.an_event_has_one_outcome.ensures c.an_end_has_one_fold.ensures
