use Rattle.history_laws.proofs.SizeLemmas.{exact_size, rises}
use Rattle.history_laws.proofs.laws.sizes_rise.Goals as goal

pub returns-clause-least : goal.returns-clause-least
returns-clause-least c = rises

pub returns-clause-exact : goal.returns-clause-exact
returns-clause-exact c site modes calls start end leads =
    let found = c.a_history_may_happen.ensures site modes calls start end leads in
    (found.0, found.1, (found.2, found.3), exact_size found.0 start end (found.2, found.3))
