use Rattle.std.proofs.Common.{arith, rules, IsTrue}
use Rattle.std.specs.Char.{is_ascii_digit}
use Rattle.std.proofs.lemmas.List.Elements.{All-more}
use Rattle.as4_http.proofs.LengthLemmas.{digits_small, digits_on}
use Rattle.as4_http.proofs.framing.number_of.Goals as goal

pub overflow_mul-number : goal.overflow_mul-number
overflow_mul-number c =
    let small = digits_small c.args.digits.now c.loop-digit.digit-index c.loop-digit.number c.loop-digit.invariant.number c.loop-digit.invariant.digits (omega arith) (omega arith) in
    omega arith

pub overflow_add-number : goal.overflow_add-number
overflow_add-number c =
    let small = digits_small c.args.digits.now c.loop-digit.digit-index c.loop-digit.number c.loop-digit.invariant.number c.loop-digit.invariant.digits (omega arith) (omega arith) in
    omega (arith, c.type_inv.digits c.loop-digit.digit-index)

pub loop-digit-preserved : goal.loop-digit-preserved
loop-digit-preserved c = record {
  number = digits_on c.args.digits.now c.loop-digit.digit-index c.loop-digit.number c.loop-digit.invariant.number c.loop-digit-test.true (search rules);
  digits = All-more (λ b. IsTrue (is_ascii_digit b)) c.args.digits.now c.loop-digit.digit-index 0 c.loop-digit-test.true c.loop-digit.invariant.digits (search rules);
}
