use Rattle.step_laws.proofs.StepLemmas.{step_fits}
use Rattle.step_laws.proofs.laws.what_a_step_gives_fits.Goals as goal

pub returns : goal.returns
returns c modes end event outcome reached step = step_fits modes end event outcome reached step
