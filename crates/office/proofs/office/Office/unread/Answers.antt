use Rattle.office.proofs.StateLemmas.{order_keeps}
use Rattle.office.proofs.office.Office.unread.Goals as goal

pub returns-in-None-clause-safe : goal.returns-in-None-clause-safe
returns-in-None-clause-safe g c = rw (← c.self.view_is) (order_keeps c.self.invariant.0)
