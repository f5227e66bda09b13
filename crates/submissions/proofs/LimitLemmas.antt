-- Whether loads are too large, and the properties of those that aren't.
use Rattle.std.proofs.Common.{◌≡◌, ℕ, ◌-◌, ◌^◌, ◌≤◌, List, false, length, arith}
use Rattle.std.specs.Prelude.{nat_lt, min, IsTrue}
use Rattle.std.specs.List.{list_all, sum_by}
use Rattle.std.proofs.lemmas.Bool.Decides.{nat_tests}
use Rattle.as4_values.specs.Payload.{is_media_text}
use Rattle.as4_values.specs.declared.payload.Load.{Load}
use Rattle.exchange_model.specs.Submitting.{are_too_large}

-- capping a sum at the greatest number doesn't change the comparison
pub capped : (sum : ℕ) → nat_lt 62914560 (min sum (2 ^ 64 - 1)) ≡ nat_lt 62914560 sum
capped sum = grind (arith, nat_tests)

-- loads that aren't too large
pub record AreSmall (loads : List Load) : Type 0 where
  pub few : length loads ≤ 64
  pub typed : IsTrue (list_all (λ (load : Load). is_media_text load.media) loads)
  pub limited : sum_by (λ (load : Load). length load.content) loads ≤ 62914560

pub are_small : (loads : List Load) → are_too_large loads ≡ false → AreSmall loads
unfolding are_too_large
are_small loads not_so = record {
  few = grind (arith, nat_tests);
  typed = grind (arith, nat_tests);
  limited = grind (arith, nat_tests);
}
