-- The number of digits, capped at each one.
use Rattle.std.proofs.Common.{◌≡◌, ◌<◌, length, get_or, drop, ℕ, ◌+◌, ◌*◌, ◌≤◌, Bool, true, List, [], ◌∷◌, min, refl, sym, inl, inr, arith}
use Rattle.std.proofs.Math.Nat.{mul-le-mul_left}
use Rattle.std.proofs.lemmas.Bool.{cases_lt}
use Rattle.std.proofs.lemmas.List.{drop_more}
use Rattle.std.specs.List.{list_all}
use Rattle.std.specs.Char.{digit_value}
use Rattle.std.specs.Str.Parse.{digits_value_after}

grows_once : (n radix d : ℕ) → 1 ≤ radix → n ≤ n * radix + d
grows_once n radix d some =
    let more : n * 1 ≤ n * radix = mul-le-mul_left n some in
    omega arith

grows : (radix n : ℕ) (ds : List ℕ) → 1 ≤ radix → n ≤ digits_value_after radix n ds
grows radix n [] some = omega arith
grows radix n (d ∷ ds) some =
    let more = grows radix (n * radix + digit_value d) ds some in
    let once = grows_once n radix (digit_value d) some in
    omega arith

-- capping a number before the next digits gives the same capped result
pub capped_digits : (radix n cap : ℕ) (ds : List ℕ) → 1 ≤ radix → min (digits_value_after radix (min n cap) ds) cap ≡ min (digits_value_after radix n ds) cap
capped_digits radix n cap ds some =
    elim (cases_lt n cap) [
      | inl low ↦ let is : min n cap ≡ n = omega arith in rw is refl
      | inr high ↦
          let is : min n cap ≡ cap = omega arith in
          let one = grows radix cap ds some in
          let other = grows radix n ds some in
          rw is (omega arith)
    ]

-- one more digit is counted
pub number_goes : (radix cap n i : ℕ) (ds : List ℕ) → 1 ≤ radix → i < length ds
    → min (digits_value_after radix n (drop i ds)) cap ≡ min (digits_value_after radix (min (n * radix + digit_value (get_or ds i 0)) cap) (drop (i + 1) ds)) cap
number_goes radix cap n i ds some within =
    rw (drop_more ds i 0 within) (sym (capped_digits radix (n * radix + digit_value (get_or ds i 0)) cap (drop (i + 1) ds) some))

pub digits_go : (p : ℕ → Bool) (i : ℕ) (ds : List ℕ) → i < length ds → p (get_or ds i 0) ≡ true → list_all p (drop i ds) ≡ list_all p (drop (i + 1) ds)
digits_go p i ds within is = rw (drop_more ds i 0 within, is) refl
