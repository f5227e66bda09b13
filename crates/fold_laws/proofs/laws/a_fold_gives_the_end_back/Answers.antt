use Rattle.fold_laws.proofs.GivenBack.{given_back}
use Rattle.fold_laws.proofs.Sound.{reached_sound}
use Rattle.fold_laws.proofs.laws.a_fold_gives_the_end_back.Goals as goal

pub returns : goal.returns
returns c end effects reached = given_back end effects (reached_sound end reached)
