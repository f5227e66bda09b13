use Rattle.std.proofs.Common.{◌≡◌, Err, ap}
use Rattle.as4_values.specs.declared.stamp.StampRefusal.TheVariants.{BadStamp}
use Rattle.as4_values.proofs.StampLemmas.{wrong_once}
use Rattle.as4_values.proofs.stamp.read_stamp.Goals as goal

-- no stamp
pub returns-in-Some-clause-bad_stamp : goal.returns-in-Some-clause-bad_stamp
returns-in-Some-clause-bad_stamp c =
    λ at. (
      λ e. let same : c.in-Some.at ≡ at = cc in rw (← same) c.in-Some.ensures.wrong,
      λ wrong. ap (λ n. Err (BadStamp n)) (wrong_once c.args.bytes.now c.in-Some.at at c.in-Some.ensures.wrong wrong),
    )
