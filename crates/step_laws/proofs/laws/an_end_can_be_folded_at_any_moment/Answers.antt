use Rattle.std.proofs.Common.{refl}
use Rattle.exchange_model.specs.Alone.{end_after}
use Rattle.exchange_model.specs.End.{empty_end}
use Rattle.exchange_model.specs.Fold.{folded_size}
use Rattle.fold_laws.proofs.ReachedLemmas.{reached_first}
use Rattle.fold_laws.proofs.SomeFold.{reached_written, some_fold}
use Rattle.step_laws.proofs.StepLemmas.{leads_on}
use Rattle.step_laws.proofs.laws.an_end_can_be_folded_at_any_moment.Goals as goal

pub returns : goal.returns
returns c all may =
    let end = end_after all empty_end in
    let fold = some_fold end (reached_written end (leads_on all empty_end reached_first may)) in (folded_size fold.0, (fold.0, fold.1, refl))
