use Rattle.std.proofs.Common.{◌≡◌, ◌<◌, ◌+◌, ◌*◌, arith, get_or, min, ℕ, ◌∙◌, length}
use Rattle.std.proofs.lemmas.Bool.{lt-ltb}
use Rattle.std.specs.Char.{is_digit, digit_value}
use Rattle.tree_reader.proofs.NumberLemmas.{number_goes, digits_go}
use Rattle.tree_reader.proofs.text.number.Goals as goal

pub loop-byte-preserved : goal.loop-byte-preserved
loop-byte-preserved c =
    let i : ℕ = c.loop-byte.byte-index in
    let byte : ℕ = get_or c.args.digits.now i 0 in
    let within : i < length c.args.digits.now = omega arith in
    let value = c.in_ok-digit.ensures.value in
    let is : c.from.result ≡ byte = c.from.ensures in
    let below : digit_value byte < c.args.radix = rw is at value.0 in
    let digit : c.in_ok-digit.digit ≡ digit_value byte = rw is at value.1 in
    let next : c.min-number.result ≡ min (c.loop-byte.number * c.args.radix + digit_value byte) 1114112 = rw digit at c.min-number.ensures in
    record {
      capped = omega arith;
      digits = c.loop-byte.invariant.digits ∙ digits_go (λ d. is_digit d c.args.radix) i c.args.digits.now within (lt-ltb _ _ below);
      counted = rw next (c.loop-byte.invariant.counted ∙ number_goes c.args.radix 1114112 c.loop-byte.number i c.args.digits.now (omega arith) within);
    }
