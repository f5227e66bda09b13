use Rattle.std.proofs.Common.{Some, ap}
use Rattle.as4_values.proofs.StampLemmas.{stop_is_wrong, wrong_once}
use Rattle.as4_values.proofs.stamp.wrong_place.Goals as goal

pub returns-in-Some-clause-only : goal.returns-in-Some-clause-only
returns-in-Some-clause-only c =
    λ at wrong. ap Some (wrong_once c.args.text.now c.in-Some.at at (stop_is_wrong c.args.text.now c.in-Some.at c.in-Some.ensures.stop) wrong)
