use Rattle.msh_core.proofs.GivenLemmas.{other_step}
use Rattle.msh_core.proofs.given.any_other_outcome_is_a_step.Goals as goal

pub returns : goal.returns
returns c = other_step
