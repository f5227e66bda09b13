use Rattle.office.proofs.StateLemmas.{order_keeps}
use Rattle.office.proofs.office.Office.into_disk.Goals as goal

pub returns-clause-safe : goal.returns-clause-safe
returns-clause-safe g c =
    let o = c.self.inside in
    rw (← c.self.view_is, c.into_disk.ensures) (order_keeps c.self.invariant.0)

pub returns-clause-left : goal.returns-clause-left
returns-clause-left g c = rw (← c.self.view_is, c.into_disk.ensures) c.self.invariant.0.left
