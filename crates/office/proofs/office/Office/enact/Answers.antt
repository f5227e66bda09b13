use Rattle.std.proofs.Common.{◌≡◌, ◌∙◌, None, Err, is_some, sym, ap, subst}
use Rattle.std.specs.Prelude.{IfOk}
use Rattle.exchange_model.specs.declared.event.Event.{Event}
use Rattle.exchange_model.specs.declared.reply.Reply.{Reply}
use Rattle.msh_core.specs.Machine.{IsReady, Planned}
use Rattle.office.specs.Observed.{StepWhere}
use Rattle.office.specs.Preparing.{FailsReading}
use Rattle.office.specs.State.{machine_of}
use Rattle.office.specs.Steps.{Handles}
use Rattle.office.proofs.PreparingLemmas.{prepared_handling, prepared_step, prepared_stop}
use Rattle.office.proofs.office.Office.enact.Goals as goal

-- the step, as things are now
pub make-requires-clause-ready : goal.make-requires-clause-ready
make-requires-clause-ready g c takes =
    let ready = c.args.ready in
    let old = c.args.self.now in
    let first = c.requires.ready.0 in
    let prepares = c.requires.ready.1 in
    let none : ready.failed ≡ None = sym c.into_parts-event.ensures.failed ∙ c.in-None.is in (
      ready.plan.outcome,
      subst (λ (e : Event). StepWhere (is_some (g.D.Disk.seen old.disk)) old.modes old.end e ready.plan.outcome) (sym c.into_parts-event.ensures.event)
          (prepared_step g.D.Disk first old ready prepares none takes),
      (
        ap (λ (p : Planned). p.outcome) c.into_parts-event.ensures.plan,
        subst (λ (p : Planned). IsReady (machine_of old) p) (sym c.into_parts-event.ensures.plan) prepares.planned,
        c.into_parts-event.ensures.frame,
      ),
    )

pub returns-in-None-clause-handles : goal.returns-in-None-clause-handles
returns-in-None-clause-handles g c first prepares =
    let ready = c.args.ready in
    let none : ready.failed ≡ None = sym c.into_parts-event.ensures.failed ∙ c.in-None.is in
    prepared_handling g.D.Disk first c.args.self.now c.make.new.self c.args.pass.now c.make.new.pass ready c.make.result prepares none
    (subst (λ (e : Event). Handles g.D.Disk c.args.self.now c.make.new.self c.args.pass.now c.make.new.pass e c.make.result) c.into_parts-event.ensures.event c.make.ensures.handles)

pub returns-in-None-clause-reply : goal.returns-in-None-clause-reply
returns-in-None-clause-reply g c =
    subst (λ (p : Planned). IfOk c.make.result (λ (r : Reply). r ≡ p.outcome.reply)) c.into_parts-event.ensures.plan c.make.ensures.reply

-- the disk failed when it was read
pub stop-requires-clause-failed : goal.stop-requires-clause-failed
stop-requires-clause-failed g c =
    let first = c.requires.ready.0 in
    let fails = prepared_stop g.D.Disk first c.args.self.now c.args.ready c.requires.ready.1 c.in-Some.halt (sym c.into_parts-event.ensures.failed ∙ c.in-Some.is) in
    (first, subst (λ (e : Event). FailsReading g.D.Disk first c.args.self.now e c.in-Some.halt) (sym c.into_parts-event.ensures.event) fails)

pub returns-in-Some-clause-handles : goal.returns-in-Some-clause-handles
returns-in-Some-clause-handles g c first prepares =
    let fails = prepared_stop g.D.Disk first c.args.self.now c.args.ready prepares c.in-Some.halt (sym c.into_parts-event.ensures.failed ∙ c.in-Some.is) in
    subst (λ (e : Event). Handles g.D.Disk first c.stop.new.self c.args.pass.now c.stop.new.pass e (Err c.stop.result)) c.into_parts-event.ensures.event
    (c.stop.ensures.handles first (subst (λ (e : Event). FailsReading g.D.Disk first c.args.self.now e c.in-Some.halt) (sym c.into_parts-event.ensures.event) fails))
