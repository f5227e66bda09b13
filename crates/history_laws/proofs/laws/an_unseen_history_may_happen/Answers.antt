use Rattle.history_laws.proofs.UnseenLemmas.{agrees, happens, unread}
use Rattle.history_laws.proofs.laws.an_unseen_history_may_happen.Goals as goal

pub returns-clause-happens : goal.returns-clause-happens
returns-clause-happens c = happens

pub returns-clause-unread : goal.returns-clause-unread
returns-clause-unread c = unread

pub returns-clause-agrees : goal.returns-clause-agrees
returns-clause-agrees c = agrees
