use Rattle.std.proofs.Common.{◌≡◌, take}
use Rattle.std.specs.Prelude.{All, IsTrue}
use Rattle.std.specs.Char.{is_ascii_digit}
use Rattle.std.specs.Str.Parse.{digits_value}
use Rattle.as4_http.proofs.framing.number_of.Given as goal

abbrev pub invariant-loop-digit : goal.invariant-loop-digit
invariant-loop-digit l = record {
  number : l.number ≡ digits_value 10 (take l.digit-index l.digits);
  digits : All (λ b. IsTrue (is_ascii_digit b)) (take l.digit-index l.digits);
}
