use Rattle.sessions.proofs.LegalLemmas.{stays_legal, steps_under}
use Rattle.sessions.proofs.shared_office.SharedOffice.send.Goals as goal

pub returns-clause-sends : goal.returns-clause-sends
returns-clause-sends g c =
    let sends = c.send_on.ensures.sends in record {
      result = sends.result;
      steps = steps_under g.D.Disk g.J.Opening c.self.inside.office c.send_on.new.office c.args.pass.now c.send_on.new.pass c.args.event sends.result
          c.self.invariant sends.handles;
      tells = sends.tells;
    }

pub returns-clause-legal : goal.returns-clause-legal
returns-clause-legal g c =
    let sends = c.send_on.ensures.sends in
    stays_legal g.D.Disk g.J.Opening c.self.inside.office c.send_on.new.office c.args.pass.now c.send_on.new.pass c.args.event sends.result
    c.self.invariant sends.handles
