-- Which signals are whole: a relation between the reference and the body.
use Rattle.std.specs.Prelude.{ℕ, List, Bool, true, false, ◌&&◌, Option, is_some, length, nat_le}
use Rattle.as4_values.specs.declared.signal_body.SignalBody.{SignalBody}
use Rattle.as4_values.specs.declared.signal_body.SignalBody.TheVariants.{Pull, Receipt, Errors}

-- a receipt refers to its message, and an error signal has 1 to 256 errors
abbrev pub is_signal : Option (List ℕ) → SignalBody → Bool
is_signal ref_to (Pull mpc) = true
is_signal ref_to (Receipt copy) = is_some ref_to
is_signal ref_to (Errors items) = nat_le 1 (length items) && nat_le (length items) 256

-- the parts of a pair: a receipt and a pull request
abbrev pub is_receipt : SignalBody → Bool
is_receipt (Receipt copy) = true
is_receipt other = false

abbrev pub is_pull : SignalBody → Bool
is_pull (Pull mpc) = true
is_pull other = false
