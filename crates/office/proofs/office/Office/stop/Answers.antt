use Rattle.std.proofs.Common.{◌≡◌, ◌∙◌, Err, Some, sym, ap, subst}
use Rattle.office.specs.Calls.{stop_of}
use Rattle.office.specs.Preparing.{FailsReading}
use Rattle.office.specs.State.{OfficeState}
use Rattle.office.specs.Steps.{Handles}
use Rattle.office.specs.declared.fault.OfficeFault.TheVariants.{Disk}
use Rattle.office.proofs.HandlingLemmas.{office}
use Rattle.office.proofs.PreparingLemmas.{stop_handling, was_before}
use Rattle.office.proofs.StateLemmas.{order_stops, reads_left}
use Rattle.office.proofs.office.Office.stop.Goals as goal

pub invariant_of-self : goal.invariant_of-self
invariant_of-self g c =
    let o = c.self.inside in
    let order = c.self.invariant.0 in
    let first = c.requires.failed.0 in
    let fails = subst (λ (v : OfficeState g.row.D.Denot). FailsReading g.D.Disk first v c.args.event c.args.fault) (sym c.self.view_is) c.requires.failed.1 in
    let going = order.halted ∙ ap (λ (v : OfficeState g.row.D.Denot). stop_of v.list) fails.same ∙ fails.going.1 in (
      order_stops order o.journal c.enter_stop.new.keeper.list (Some c.args.event) c.args.fault going c.enter_stop.ensures.list fails.rose fails.new_count (reads_left order going c.args.event c.args.fault),
      c.self.invariant.1,
    )

pub returns-clause-handles : goal.returns-clause-handles
returns-clause-handles g c first failed =
    let o = c.self.inside in
    let here = office o.journal o.core.end o.core.places o.core.modes o.core.rooms o.keeper.book o.keeper.list in
    let fails = subst (λ (v : OfficeState g.row.D.Denot). FailsReading g.D.Disk first v c.args.event c.args.fault) (sym c.self.view_is) failed in
    let same = was_before first here fails.same in
    rw (c.enter_stop.ensures.fault)
    (subst (λ (v : OfficeState g.row.D.Denot). Handles g.D.Disk v (office o.journal o.core.end o.core.places o.core.modes o.core.rooms c.enter_stop.new.keeper.book c.enter_stop.new.keeper.list) c.args.pass.now c.enter_stop.new.pass c.args.event (Err (Disk c.args.fault.before c.args.fault.after))) same
    (stop_handling c.self.invariant.0 o.core.rooms o.keeper.book c.args.event first.disk first.rooms c.enter_stop.new.keeper.list c.args.fault c.args.pass.now c.enter_stop.new.pass c.enter_stop.new.keeper.book c.enter_stop.ensures.book
    (subst (λ (v : OfficeState g.row.D.Denot). FailsReading g.D.Disk v here c.args.event c.args.fault) (sym same) fails)
    c.enter_stop.ensures.seen c.enter_stop.ensures.list c.enter_stop.ensures.pass (invariant_of-self g c).0))
