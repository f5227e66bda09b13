use Rattle.exchange_model.specs.End.{empty_end}
use Rattle.fold_laws.proofs.ReachedLemmas.{reached_first}
use Rattle.step_laws.proofs.StepLemmas.{leads_on}
use Rattle.step_laws.proofs.laws.what_happens_leads_to_reached_ends.Goals as goal

pub returns : goal.returns
returns c all may = leads_on all empty_end reached_first may
