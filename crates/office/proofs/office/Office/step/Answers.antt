use Rattle.std.proofs.Common.{◌≡◌, ◌∙◌, false, true, sym, ap, subst}
use Rattle.exchange_model.specs.declared.event.Event.{Event}
use Rattle.office.specs.State.{OfficeState}
use Rattle.office.specs.Steps.{Handles}
use Rattle.office.proofs.office.Office.step.Goals as goal

pub enact-requires : goal.enact-requires
enact-requires g c = record {
  book = c.requires.book ∙ sym (ap (λ (o : OfficeState g.row.D.Denot). o.book) c.in-Ok.ensures.ready.same);
  ready = (c.args.self.now, c.in-Ok.ensures.ready);
}

pub returns-in-Ok : goal.returns-in-Ok
returns-in-Ok g c = record {
  handles = subst (λ (e : Event). Handles g.D.Disk c.args.self.now c.enact.new.self c.args.pass.now c.enact.new.pass e c.enact.result) c.in-Ok.ensures.event
      (c.enact.ensures.handles c.args.self.now c.in-Ok.ensures.ready);
  free = λ outcome step free. c.enact.ensures.memory;
  takes = λ starved. absurd (c.enact.ensures.memory starved);
}

pub returns-in-Err : goal.returns-in-Err
returns-in-Err g c = record {
  handles = c.in-Err.ensures.starved c.args.pass.now;
  free = λ outcome step free starved. (let wrong : false ≡ true = c.in-Err.ensures.free outcome step free in absurd cc);
  takes = λ starved. c.takes_events.ensures.takes c.if-not-takes_events.false;
}
