-- Lemmas on decimal digits that are read one by one.
use Rattle.std.proofs.Common.{◌≡◌, ℕ, ◌+◌, ◌-◌, ◌*◌, ◌^◌, ◌<◌, ◌≤◌, IsTrue, List, [], ◌∷◌, length, get_or, take, sym, ◌∙◌, ap, arith, All}
use Rattle.std.specs.Char.{is_ascii_digit, digit_value}
use Rattle.std.specs.Str.Parse.{digits_value, AllDigits}
use Rattle.std.proofs.lemmas.Bool.Decides.{nat_tests}
use Rattle.std.proofs.lemmas.Int.Digits.{digits_value-lt, digits_value_more}
use Rattle.std.proofs.lemmas.List.{length-take-le}
use Rattle.std.proofs.lemmas.List.Elements.{All-head, All-tail}
use Rattle.std.proofs.Math.Nat.{pow-le-pow_right}

abbrev IsDigit : ℕ → Type 0
IsDigit b = IsTrue (is_ascii_digit b)

pub digit_is : (b : ℕ) → IsTrue (is_ascii_digit b) → (digit_value b ≡ b - 48) × (b - 48 < 10)
digit_is b digit = (grind (arith, nat_tests), grind (arith, nat_tests))

all_digits : (bytes : List ℕ) → All IsDigit bytes → AllDigits 10 bytes
all_digits [] all = tt
all_digits (b ∷ bytes) all =
    let first = digit_is b (All-head IsDigit b bytes all) in
    (omega arith, all_digits bytes (All-tail IsDigit b bytes all))

-- up to 18 digits write a number that takes one more digit
pub digits_small : (bytes : List ℕ) (i number : ℕ) → number ≡ digits_value 10 (take i bytes) → All IsDigit (take i bytes) → i ≤ length bytes → i ≤ 18 → number < 10 ^ 18
digits_small bytes i number is all within few =
    let below : digits_value 10 (take i bytes) < 10 ^ length (take i bytes) = digits_value-lt 10 (take i bytes) (all_digits (take i bytes) all) in
    let few_taken : length (take i bytes) ≤ 18 = omega (arith, length-take-le i bytes within) in
    let most : 10 ^ length (take i bytes) ≤ 10 ^ 18 = pow-le-pow_right {n = 10} (omega arith) {i = length (take i bytes)} {j = 18} few_taken in
    omega arith

pub digits_on : (bytes : List ℕ) (i number : ℕ) → number ≡ digits_value 10 (take i bytes) → i < length bytes → IsTrue (is_ascii_digit (get_or bytes i 0)) → number * 10 + (get_or bytes i 0 - 48) ≡ digits_value 10 (take (i + 1) bytes)
digits_on bytes i number is within digit =
    ap (λ (n : ℕ). n * 10 + (get_or bytes i 0 - 48)) is
    ∙ ap (λ (d : ℕ). digits_value 10 (take i bytes) * 10 + d) (sym (digit_is (get_or bytes i 0) digit).0)
    ∙ sym (digits_value_more 10 bytes i within)
