use Rattle.stranger_laws.proofs.FullLemmas.{full_for_cause}
use Rattle.stranger_laws.proofs.laws.full_is_told_for_cause.Goals as goal

pub returns : goal.returns
returns c = full_for_cause
