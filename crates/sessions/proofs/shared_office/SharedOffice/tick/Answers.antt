use Rattle.sessions.proofs.LegalLemmas.{stays_legal, steps_under}
use Rattle.sessions.proofs.shared_office.SharedOffice.tick.Goals as goal

pub returns-clause-ticks : goal.returns-clause-ticks
returns-clause-ticks g c = record {
  event = c.tick.ensures.handles.0;
  tick = c.tick.ensures.handles.1;
  steps = steps_under g.D.Disk g.J.Opening c.self.inside.office c.tick.new.self c.args.pass.now c.tick.new.pass c.tick.ensures.handles.0 c.tick.result
      c.self.invariant c.tick.ensures.handles.2;
}

pub returns-clause-legal : goal.returns-clause-legal
returns-clause-legal g c =
    stays_legal g.D.Disk g.J.Opening c.self.inside.office c.tick.new.self c.args.pass.now c.tick.new.pass c.tick.ensures.handles.0 c.tick.result
    c.self.invariant c.tick.ensures.handles.2
