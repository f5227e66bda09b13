use Rattle.std.proofs.Common.{slice_get, ap, sym, ◌∙◌}
use Rattle.channels.proofs.NameLemmas.{name_found, name_missed}
use Rattle.channels.proofs.names.Names.find.Goals as goal

pub returns-in_err-at-clause-none : goal.returns-in_err-at-clause-none
returns-in_err-at-clause-none c =
    rw c.from_residual.ensures
    (λ at has. name_missed c.args.name.now c.self.inside.names.keys (sym c.in_err-at.ensures.found) at (ap (λ names. slice_get names at) c.self.view_is ∙ has))

pub returns-clause-found : goal.returns-clause-found
returns-clause-found c =
    rw (← c.self.view_is) (name_found c.args.name.now c.self.inside.names.keys c.in_ok-at.at c.in_ok-at.ensures.index)
