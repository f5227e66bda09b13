-- Decimal digits, one by one.
use Rattle.std.proofs.Common.{◌≡◌, ℕ, zero, suc, ◌+◌, ◌-◌, ◌/◌, ◌%◌, ◌<◌, List, [], ◌∷◌, ◌++◌, arith, append_assoc, sub-one}
use Rattle.as4_values.specs.Moment.{digits}

-- appends one more digit
pub push_digit : (out : List ℕ) (places n : ℕ) → 0 < places → (out ++ digits (places - 1) (n / 10)) ++ (48 + n % 10) ∷ [] ≡ out ++ digits places n
unfolding digits
push_digit out zero n some = absurd (omega arith)
push_digit out (suc places) n some = rw sub-one (append_assoc out (digits places (n / 10)) ((48 + n % 10) ∷ []))
