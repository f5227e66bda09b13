use Rattle.stranger_laws.proofs.TryLemmas.{uses_clock}
use Rattle.stranger_laws.proofs.laws.a_step_uses_the_clock.Goals as goal

pub returns : goal.returns
returns c = uses_clock
