use Rattle.stranger_laws.proofs.TakenLemmas.{refused}
use Rattle.stranger_laws.proofs.laws.what_no_mode_takes_is_refused.Goals as goal

pub returns : goal.returns
returns c = refused
