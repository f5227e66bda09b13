use Rattle.msh_core.proofs.ShortLemmas.{short_rest}
use Rattle.msh_core.proofs.machine.limited.Goals as goal

pub returns-in-Some-clause-short : goal.returns-in-Some-clause-short
returns-in-Some-clause-short c = short_rest _ _ c.rests.ensures
