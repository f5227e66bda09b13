use Rattle.sessions.proofs.LegalLemmas.{stays_legal, steps_under}
use Rattle.sessions.proofs.shared_office.SharedOffice.answer.Goals as goal

pub returns-clause-answers : goal.returns-clause-answers
returns-clause-answers g c =
    let answers = c.answer_on.ensures.answers in record {
      result = answers.result;
      steps = steps_under g.D.Disk g.J.Opening c.self.inside.office c.answer_on.new.office c.args.pass.now c.answer_on.new.pass c.args.event answers.result
          c.self.invariant answers.handles;
      tells = answers.tells;
    }

pub returns-clause-legal : goal.returns-clause-legal
returns-clause-legal g c =
    let answers = c.answer_on.ensures.answers in
    stays_legal g.D.Disk g.J.Opening c.self.inside.office c.answer_on.new.office c.args.pass.now c.answer_on.new.pass c.args.event answers.result
    c.self.invariant answers.handles
