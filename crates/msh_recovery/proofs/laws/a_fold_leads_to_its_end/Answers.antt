use Rattle.exchange_model.specs.End.{empty_end}
use Rattle.exchange_model.specs.Fold.{folded_size, resized}
use Rattle.fold_laws.proofs.GivenBack.{given_back}
use Rattle.fold_laws.proofs.Sound.{reached_sound}
use Rattle.msh_recovery.proofs.FoldLemmas.{fold_leads}
use Rattle.msh_recovery.proofs.laws.a_fold_leads_to_its_end.Goals as goal

pub returns : goal.returns
returns c end effects reached folded spelled =
    fold_leads effects empty_end (resized (folded_size effects) end) spelled (given_back end effects (reached_sound end reached) folded)
