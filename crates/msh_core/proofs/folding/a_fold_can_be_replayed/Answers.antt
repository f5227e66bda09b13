use Rattle.exchange_model.specs.End.{empty_end}
use Rattle.exchange_model.specs.Fold.{folded_size, resized}
use Rattle.fold_laws.proofs.GivenBack.{given_back}
use Rattle.fold_laws.proofs.Sound.{reached_sound}
use Rattle.msh_core.proofs.ReplayLemmas.{can_be_replayed}
use Rattle.msh_core.proofs.folding.a_fold_can_be_replayed.Goals as goal

pub returns : goal.returns
returns c end effects reached folded room =
    can_be_replayed effects empty_end (resized (folded_size effects) end) (given_back end effects (reached_sound end reached) folded) room
