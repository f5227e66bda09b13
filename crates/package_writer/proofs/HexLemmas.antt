-- Hexadecimal digits, one by one.
use Rattle.std.proofs.Common.{◌≡◌, ℕ, zero, suc, ◌-◌, ◌/◌, ◌%◌, ◌<◌, List, [], ◌∷◌, ◌++◌, arith, append_assoc, sub-one}
use Rattle.byte_forms.specs.Digits.{hex_digit}
use Rattle.message_model.specs.Package.{hex_digits}

-- appends one more digit
pub push_digit : (out : List ℕ) (places n : ℕ) → 0 < places → (out ++ hex_digits (places - 1) (n / 16)) ++ hex_digit (n % 16) ∷ [] ≡ out ++ hex_digits places n
unfolding hex_digits
push_digit out zero n some = absurd (omega arith)
push_digit out (suc places) n some = rw sub-one (append_assoc out (hex_digits places (n / 16)) (hex_digit (n % 16) ∷ []))
