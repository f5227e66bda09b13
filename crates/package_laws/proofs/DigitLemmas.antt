-- The digits of a number belong to each class that has all sixteen.
use Rattle.std.proofs.Common.{◌≡◌, ℕ, zero, suc, ◌+◌, ◌/◌, ◌%◌, ◌<◌, Bool, true, [], ◌∷◌, length, map, arith, refl, ap, subst, ◌∙◌, length-append}
use Rattle.std.specs.Prelude.{IsTrue, codes}
use Rattle.std.specs.List.{list_all, range_with_len}
use Rattle.std.proofs.lemmas.List.Folds.{list_all-append}
use Rattle.std.proofs.lemmas.List.FromFn.{get_or-map-range_with_len}
use Rattle.std.proofs.lemmas.List.Sums.{AllPass-from_list_all}
use Rattle.byte_forms.specs.Digits.{hex_digit}
use Rattle.message_model.specs.Package.{hex_digits}

-- a class of bytes that contains each digit
abbrev pub HasDigits : (ℕ → Bool) → Type 0
HasDigits class = IsTrue (list_all class (codes "0123456789abcdef"))

digit_passes : (class : ℕ → Bool) → HasDigits class → (n : ℕ) → n < 16 → class (hex_digit n) ≡ true
digit_passes class has n small =
    subst (λ (b : ℕ). class b ≡ true) (get_or-map-range_with_len hex_digit 0 16 n n 0 small (omega arith))
    (AllPass-from_list_all class (map hex_digit (range_with_len 0 16)) has n 0 small)

pub digits_pass : (class : ℕ → Bool) → HasDigits class → (places n : ℕ) → list_all class (hex_digits places n) ≡ true
unfolding hex_digits
digits_pass class has zero n = refl
digits_pass class has (suc places) n =
    list_all-append class (hex_digits places (n / 16)) (hex_digit (n % 16) ∷ [])
    ∙ rw (digits_pass class has places (n / 16), digit_passes class has (n % 16) (omega arith)) refl

pub length-hex_digits : (places n : ℕ) → length (hex_digits places n) ≡ places
unfolding hex_digits
length-hex_digits zero n = refl
length-hex_digits (suc places) n =
    length-append (hex_digits places (n / 16)) (hex_digit (n % 16) ∷ []) ∙ ap (λ (k : ℕ). k + 1) (length-hex_digits places (n / 16)) ∙ omega arith
