use Rattle.std.proofs.Common.{is_some, refl, sym, subst}
use Rattle.office.specs.Calls.{LeadsWhere}
use Rattle.handler.proofs.running.run_if.Goals as goal

pub run_office-requires-clause-opened : goal.run_office-requires-clause-opened
run_office-requires-clause-opened g c κs within = record {
  book = refl;
  modes = refl;
  observable = refl;
  legal = subst (λ l. LeadsWhere (is_some (g.D.Disk.seen c.args.office.disk)) c.args.office.modes c.args.office.end l c.args.office.end) (sym c.requires.list) refl;
}
