-- Steps of the loops over Content-IDs.
use Rattle.std.proofs.Common.{◌≡◌, ℕ, ◌+◌, ◌<◌, Bool, true, false, List, map, drop, length, get_or, refl}
use Rattle.std.specs.Prelude.{not, ◌&&◌}
use Rattle.std.proofs.lemmas.List.{drop_more}
use Rattle.as4_values.specs.Pairing.{is_among, all_differ}

pub all_differ_step : {X : Type 0} (f : X → List ℕ) (xs : List X) (i : ℕ) (x : X) → i < length xs → x ≡ get_or xs i x
    → all_differ (map f (drop i xs)) ≡ (not (is_among (map f (drop (i + 1) xs)) (f x)) && all_differ (map f (drop (i + 1) xs)))
unfolding all_differ
all_differ_step f xs i x below is = rw (drop_more xs i x below, ← is) refl

-- the cheap tests come first
pub in_order : (a b c d : Bool) → (a && (b && (c && d))) ≡ (a && (c && (d && b)))
in_order true true true true = refl
in_order true true true false = refl
in_order true true false true = refl
in_order true true false false = refl
in_order true false true true = refl
in_order true false true false = refl
in_order true false false true = refl
in_order true false false false = refl
in_order false b c d = refl
