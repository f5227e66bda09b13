-- The digits of a number, read from the first one on.
use Rattle.std.proofs.Common.{◌≡◌, ℕ, zero, suc, ◌+◌, ◌-◌, ◌*◌, ◌/◌, ◌%◌, ◌^◌, ◌<◌, ◌≤◌, List, [], ◌∷◌, ◌++◌, Option, Some, None, arith, refl, ap, sym, ◌∙◌, append_assoc}
use Rattle.std.specs.Prelude.{unwrap_or}
use Rattle.std.proofs.lemmas.Grind.{common_steps}
use Rattle.std.proofs.Math.Nat.{div-one, div-div-eq-div-mul, pow-suc, mul_assoc, mul_comm, le-mul_of_pos_right, mul-le-mul_right}
use Rattle.byte_forms.specs.Digits.{hex_digit, digit_value}
use Rattle.message_model.specs.Package.{hex_digits}
use Rattle.byte_forms.specs.Cuts.{◌>>=◌}
use Rattle.byte_forms.proofs.CutLemmas.{bind_some}
use Rattle.package_writer.specs.Numbers.{number_from}

-- the value of a digit
valued : (b d : ℕ) → digit_value b ≡ Some d → (b ≡ hex_digit d) × (d < 16)
valued b d is = grind (arith, common_steps)

valued_again : (d : ℕ) → d < 16 → digit_value (hex_digit d) ≡ Some d
valued_again d small = grind (arith, common_steps)

some_pair : {A B : Type 0} (a x : A) (b y : B) → ◌≡◌ {A = Option (A × B)} (Some (a, b)) (Some (x, y)) → (a ≡ x) × (b ≡ y)
some_pair {A} {B} a x b y e = (ap (λ (o : Option (A × B)). (unwrap_or o (a, b)).0) e, ap (λ (o : Option (A × B)). (unwrap_or o (a, b)).1) e)

-- one digit fewer
shifted : (n places : ℕ) → n / 16 / 16 ^ places ≡ n / 16 ^ suc places
shifted n places = div-div-eq-div-mul n 16 (16 ^ places) ∙ ap (λ (k : ℕ). n / k) (omega (arith, pow-suc 16 places))

-- the first of n digits
pub first_digit : (places n : ℕ) → hex_digits (suc places) n ≡ hex_digit (n / 16 ^ places % 16) ∷ hex_digits places n
unfolding hex_digits
first_digit zero n = rw (div-one n) refl
first_digit (suc places) n =
    ap (λ (xs : List ℕ). xs ++ hex_digit (n % 16) ∷ []) (first_digit places (n / 16)) ∙ ap (λ (k : ℕ). hex_digit (k % 16) ∷ (hex_digits places (n / 16) ++ hex_digit (n % 16) ∷ [])) (shifted n places)

-- the number that is read is written there, and its leading digits are those read before
pub number_found : (n places : ℕ) (bytes : List ℕ) (m : ℕ) (rest : List ℕ) → number_from n places bytes ≡ Some (m, rest) → (bytes ≡ hex_digits places m ++ rest) × (m / 16 ^ places ≡ n)
unfolding number_from hex_digits
number_found n zero bytes m rest e =
    let same = some_pair n m bytes rest e in
    (same.1, div-one m ∙ sym same.0)
number_found n (suc places) [] m rest e = absurd cc
number_found n (suc places) (b ∷ bytes) m rest e =
    bind_some (digit_value b) (λ digit. number_from (n * 16 + digit) places bytes) (m, rest) e λ digit is more.
    let digit_is = valued b digit is in
    let behind = number_found (n * 16 + digit) places bytes m rest more in
    let last : (n * 16 + digit) % 16 ≡ digit = omega (arith, digit_is.1) in
    let before : (n * 16 + digit) / 16 ≡ n = omega (arith, digit_is.1) in (
      rw (first_digit places m, behind.1, last, digit_is.0) (ap (λ (xs : List ℕ). hex_digit digit ∷ xs) behind.0),
      sym (div-div-eq-div-mul m (16 ^ places) 16 ∙ ap (λ (k : ℕ). m / k) (sym (pow-suc 16 places))) ∙ (rw behind.1 before),
    )

-- and conversely
pub number_again : (n places m : ℕ) (rest : List ℕ) → m / 16 ^ places ≡ n → number_from n places (hex_digits places m ++ rest) ≡ Some (m, rest)
unfolding number_from hex_digits
number_again n zero m rest is = rw (sym is ∙ div-one m) refl
number_again n (suc places) m rest is =
    let digit : ℕ = m / 16 ^ places % 16 in
    let halves : m / 16 ^ places / 16 ≡ n = div-div-eq-div-mul m (16 ^ places) 16 ∙ (ap (λ (k : ℕ). m / k) (sym (pow-suc 16 places)) ∙ is) in
    let small : digit < 16 = omega arith in
    let whole : m / 16 ^ places ≡ n * 16 + digit = omega (arith, halves) in
    rw (first_digit places m, valued_again digit small) (number_again (n * 16 + digit) places m rest whole)

pow_some : (places : ℕ) → 0 < 16 ^ places
pow_some zero = omega arith
pow_some (suc places) = omega (arith, pow-suc 16 places, pow_some places)

regrouped : (a b : ℕ) → a * 16 * b ≡ a * (b * 16)
regrouped a b = mul_assoc a 16 b ∙ ap (λ (k : ℕ). a * k) (mul_comm 16 b)

-- a number with one more digit fits into 64 bits
pub has_room : (n places digit : ℕ) → 0 < places → (n + 1) * 16 ^ places ≤ 2 ^ 64 → digit < 16 → (n * 16 + 16 ≤ 2 ^ 64) × ((n * 16 + digit + 1) * 16 ^ (places - 1) ≤ 2 ^ 64)
has_room n zero digit some room small = absurd (omega (arith, some))
has_room n (suc places) digit some room small =
    let more : n * 16 + digit + 1 ≤ (n + 1) * 16 = omega (arith, small) in
    let same : (n + 1) * 16 * 16 ^ places ≡ (n + 1) * 16 ^ suc places = regrouped (n + 1) (16 ^ places) ∙ ap (λ (k : ℕ). (n + 1) * k) (sym (pow-suc 16 places)) in
    let wide : (n + 1) * 16 ≤ (n + 1) * 16 * 16 ^ places = le-mul_of_pos_right ((n + 1) * 16) (pow_some places) in
    let step : (n * 16 + digit + 1) * 16 ^ places ≤ (n + 1) * 16 * 16 ^ places = mul-le-mul_right (16 ^ places) more in
    let before : suc places - 1 ≡ places = omega arith in
    (omega (arith, wide, same, room), rw before (omega (arith, step, same, room)))
