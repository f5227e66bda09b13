-- The number that digits write, as they are read one by one.
use Rattle.std.proofs.Common.{◌≡◌, ℕ, ◌+◌, ◌-◌, ◌*◌, ◌<◌, ◌≤◌, List, [], ◌∷◌, Bool, false, ◌&&◌, length, drop, get_or, refl, ◌∙◌, arith}
use Rattle.std.proofs.lemmas.List.{drop_more}
use Rattle.std.proofs.lemmas.Bool.Decides.{nat_tests}
use Rattle.std.proofs.lemmas.Bool.{cond_both, ltb-false}
use Rattle.std.proofs.lemmas.List.Sums.{prefix_len-le-length}
use Rattle.std.specs.Prelude.{nat_le, nat_lt, not, cond, Some, None, unwrap_or, position}
use Rattle.std.specs.List.{position_or_len}
use Rattle.as4_values.specs.Address.{number_on, writes_port}

-- more digits never make a smaller number
grows : (n : ℕ) (digits : List ℕ) → n ≤ number_on n digits
grows n [] = omega arith
grows n (digit ∷ digits) = let more : n * 10 + (digit - 48) ≤ number_on (n * 10 + (digit - 48)) digits = grows (n * 10 + (digit - 48)) digits in omega arith

pub number_step : (digits : List ℕ) (i n : ℕ) → i < length digits
    → number_on (n * 10 + (get_or digits i 0 - 48)) (drop (i + 1) digits) ≡ number_on n (drop i digits)
number_step digits i n short = rw (drop_more digits i 0 short)

pub number_grows : (digits : List ℕ) (i n : ℕ) → number_on n (drop i digits) ≡ number_on 0 digits → n ≤ number_on 0 digits
number_grows digits i n same = let more : n ≤ number_on n (drop i digits) = grows n (drop i digits) in omega arith

too_great : (all some : Bool) (number : ℕ) → 65535 < number → false ≡ (all && (some && nat_le number 65535))
too_great all some number past = grind (arith, nat_tests)

-- once a prefix of the digits writes a number above the limit, they write no port
pub past_ports : (digits : List ℕ) (i n : ℕ) → i < length digits → number_on n (drop i digits) ≡ number_on 0 digits
    → 65535 < n * 10 + (get_or digits i 0 - 48) → false ≡ writes_port digits
unfolding writes_port
past_ports digits i n short same past =
    let step : number_on (n * 10 + (get_or digits i 0 - 48)) (drop (i + 1) digits) ≡ number_on n (drop i digits) = number_step digits i n short in
    let more : n * 10 + (get_or digits i 0 - 48) ≤ number_on 0 digits = number_grows digits (i + 1) (n * 10 + (get_or digits i 0 - 48)) (step ∙ same) in
    too_great _ _ (number_on 0 digits) (omega arith)

or_end : (n end : ℕ) → n ≤ end → unwrap_or (cond (nat_lt n end) (Some n) None) end ≡ n
or_end n end within = cond_both (nat_lt n end) (Some n) None (λ r. unwrap_or r end ≡ n) (λ _. refl) (λ e. omega (arith, ltb-false n end e))

-- the place of the first item that passes, or the end
pub position_or_end : (p : ℕ → Bool) (xs : List ℕ) → unwrap_or (position p xs) (length xs) ≡ position_or_len p xs
position_or_end p xs =
    let within : position_or_len p xs ≤ length xs = prefix_len-le-length (λ x. not (p x)) xs in
    or_end (position_or_len p xs) (length xs) within
