use Rattle.office.proofs.HistoryLemmas.{history}
use Rattle.office.proofs.laws.a_history_may_happen.Goals as goal

pub returns : goal.returns
returns c site modes calls start end leads =
    let found = history site modes calls start end leads in (found.0, found.1, found.2.0, found.2.1)
