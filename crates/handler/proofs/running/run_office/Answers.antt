use Rattle.std.proofs.Common.{◌++◌, arith, refl, subst, sym, ◌∙◌}
use Rattle.as4_flow.specs.Flow.{TakesFront}
use Rattle.handler.specs.Working.{RunsOver}
use Rattle.handler.proofs.AnnouncingLemmas.{counts_are}
use Rattle.handler.proofs.RunningLemmas.{leads_here, not_served, ran_early, ran_whole, size_is}
use Rattle.handler.proofs.running.run_office.Goals as goal

pub returns-in-Ok-clause-runs : goal.returns-in-Ok-clause-runs
returns-in-Ok-clause-runs g c =
    ran_whole g.D.Disk g.W.Door c.args.keep c.args.office c.checkpoint.new.self c.args.pass.now c.checkpoint.new.pass c.requires.start.0 g.J.Opening c.run_crew.result c.in-Ok.size
    c.args.crew.now.items c.run_crew.new.crew.items c.in-Ok.ensures c.requires.opened c.requires.start.1 c.run_crew.ensures.opened c.requires.pass.0 c.requires.pass.1 c.requires.pass.2
    c.run_crew.ensures.made

pub returns-in-Ok-clause-line : goal.returns-in-Ok-clause-line
returns-in-Ok-clause-line g c =
    let end = c.checkpoint.new.self.end in
    let totals = c.totals.result in
    let are = c.totals.ensures in
    let size = size_is g.D.Disk c.args.office c.checkpoint.new.self c.args.pass.now c.checkpoint.new.pass c.requires.start.0 c.in-Ok.size c.in-Ok.ensures.answer.1 in
    let counts = counts_are end c.in-Ok.size totals.submitted totals.receipted totals.failed totals.refused totals.inbox size are.0 are.1.0 are.1.1 are.1.2 are.2 in
    λ is. (end, leads_here g.D.Disk c.args.office c.checkpoint.new.self c.args.pass.now c.checkpoint.new.pass c.requires.start.0 c.in-Ok.size c.requires.pass.2 c.in-Ok.ensures, subst (λ l. TakesFront (c.args.head.items ++ l) (g.E.Sink.taken c.args.errors.now) (g.E.Sink.taken c.announce.new.errors)) counts c.announce.ensures.line)

pub returns-in-Err : goal.returns-in-Err
returns-in-Err g c = record {
  runs = subst (λ how. RunsOver g.D.Disk g.W.Door c.args.keep c.args.office c.checkpoint.new.self c.args.pass.now c.checkpoint.new.pass c.args.crew.now.items c.args.crew.now.items how) (sym c.ran_by.ensures)
      (ran_early g.D.Disk g.W.Door c.args.keep c.args.office c.checkpoint.new.self c.args.pass.now c.checkpoint.new.pass c.requires.start.0 c.in-Err.fault c.args.crew.now.items c.in-Err.ensures
      c.requires.fresh c.requires.pass.0 c.requires.pass.1 c.requires.pass.2);
  took = λ is. absurd (not_served c.in-Err.fault (sym c.ran_by.ensures ∙ is));
  line = λ is. absurd (not_served c.in-Err.fault (sym c.ran_by.ensures ∙ is));
  silent = λ _. refl;
  counted = omega arith;
}
