use Rattle.std.proofs.Common.{is_some, refl}
use Rattle.office.proofs.PreparingLemmas.{step_where}
use Rattle.office.proofs.office.Office.confirm.Goals as goal

pub make-requires-clause-ready : goal.make-requires-clause-ready
make-requires-clause-ready g c =
    let planned = c.plan_confirm-plan.ensures.step _ refl in
    let o = c.self.inside in
    rw (← c.self.view_is)
    (λ takes. (planned.0, step_where (is_some (g.D.Disk.seen o.journal.disk)) o.core.modes o.core.end _ planned.0 planned.2, (c.plan_confirm-plan.ensures.ready, planned.1)))

pub returns-clause-handles : goal.returns-clause-handles
returns-clause-handles g c = (_, (refl, refl, refl), c.make.ensures.handles)
