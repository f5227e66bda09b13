use Rattle.msh_core.proofs.GivenLemmas.{filled_step}
use Rattle.msh_core.proofs.given.a_filled_read_is_a_step.Goals as goal

pub returns : goal.returns
returns c = filled_step
