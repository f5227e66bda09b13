use Rattle.std.proofs.Common.{◌≡◌, ◌∙◌, None, Err, sym, subst}
use Rattle.exchange_model.specs.declared.event.Event.{Event}
use Rattle.office.specs.Preparing.{FailsReading}
use Rattle.office.specs.Steps.{Handles}
use Rattle.office.specs.declared.fault.OfficeFault.TheVariants.{NoMemory}
use Rattle.office.proofs.PreparingLemmas.{does_nothing, prepared_handling, prepared_stop}
use Rattle.office.proofs.office.Office.abandon.Goals as goal

-- nothing is done
pub returns-in-None-clause-handles : goal.returns-in-None-clause-handles
returns-in-None-clause-handles g c first prepares =
    let ready = c.args.ready in
    let old = c.args.self.now in
    let o = c.self.inside in
    let none : ready.failed ≡ None = sym c.into_parts-event.ensures.failed ∙ c.in-None.is in
    prepared_handling g.D.Disk first old old c.args.pass.now c.args.pass.now ready (Err NoMemory) prepares none
    (rw (← c.self.view_is) (does_nothing c.self.invariant.0 o.core.rooms o.keeper.book ready.event g.met.D.Disk.only_now c.args.pass.now))

-- the disk failed when it was read
pub stop-requires-clause-failed : goal.stop-requires-clause-failed
stop-requires-clause-failed g c =
    let first = c.requires.ready.0 in
    let fails = prepared_stop g.D.Disk first c.args.self.now c.args.ready c.requires.ready.1 c.in-Some.halt (sym c.into_parts-event.ensures.failed ∙ c.in-Some.is) in
    (first, subst (λ (e : Event). FailsReading g.D.Disk first c.args.self.now e c.in-Some.halt) (sym c.into_parts-event.ensures.event) fails)

pub returns-in-Some-clause-handles : goal.returns-in-Some-clause-handles
returns-in-Some-clause-handles g c first prepares =
    let fails = prepared_stop g.D.Disk first c.args.self.now c.args.ready prepares c.in-Some.halt (sym c.into_parts-event.ensures.failed ∙ c.in-Some.is) in
    subst (λ (e : Event). Handles g.D.Disk first c.stop.new.self c.args.pass.now c.stop.new.pass e (Err c.stop.result)) c.into_parts-event.ensures.event
    (c.stop.ensures.handles first (subst (λ (e : Event). FailsReading g.D.Disk first c.args.self.now e c.in-Some.halt) (sym c.into_parts-event.ensures.event) fails))
