use Rattle.std.proofs.Common.{◌≡◌, ◌<◌, Some, List, ℕ, length, arith, refl, sym, ap, ◌∙◌, subst, IsTrue}
use Rattle.std.proofs.lemmas.Bool.Decides.{nat_tests}
use Rattle.std.proofs.lemmas.List.{take_rest}
use Rattle.drill_script.specs.LineText.{are_bytes}
use Rattle.drill_script.proofs.HexLemmas.{are_bytes_push, hex_none, hex_next, hex_done, hex_more}
use Rattle.drill_script.proofs.hex.hex_of.Goals as goal

pub pairs-init : goal.pairs-init
pairs-init c = record {
  so_far = hex_none c.args.digits.now c.in_ok-bytes.bytes.items c.in_ok-bytes.ensures.items;
  in_range = rw c.in_ok-bytes.ensures.items refl;
}

pub returns-in_default-byte_of-clause-only : goal.returns-in_default-byte_of-clause-only
returns-in_default-byte_of-clause-only c bytes is small =
    let next = hex_next c.args.digits.now c.pairs.bytes.items bytes c.pairs.rest.now c.pairs.invariant.so_far is c.pairs.invariant.in_range small (omega (arith, c.in-len2-up.len_at_least)) in
    cc (c.in_default-byte_of.ensures.only next.0 next.1.small next.1.high next.1.low)

pub pairs-preserved : goal.pairs-preserved
pairs-preserved c = record {
  so_far = hex_more c.args.digits.now c.pairs.bytes.items c.pairs.rest.now c.push.new.self.items _ c.in-Some.byte c.pairs.invariant.so_far (omega (arith, c.in-len2-up.len_at_least)) c.in-Some.ensures.found.0 c.in-Some.ensures.found.1 c.in_ok-push.ensures.items (take_rest c.pairs.rest.now 2);
  in_range = subst (λ (l : List ℕ). IsTrue (are_bytes l)) (sym c.in_ok-push.ensures.items) (are_bytes_push c.pairs.bytes.items c.in-Some.byte c.pairs.invariant.in_range c.in-Some.ensures.range);
}

pub returns-then-not-is_empty-clause-only : goal.returns-then-not-is_empty-clause-only
returns-then-not-is_empty-clause-only c bytes is small =
    let some : 0 < length c.pairs.rest.now = grind (arith, nat_tests) in
    let next = hex_next c.args.digits.now c.pairs.bytes.items bytes c.pairs.rest.now c.pairs.invariant.so_far is c.pairs.invariant.in_range small some in
    absurd (omega (arith, next.1.two, c.in_default.len_below))

pub returns-clause-only : goal.returns-clause-only
returns-clause-only c bytes is small =
    let none : length c.pairs.rest.now ≡ 0 = grind (arith, nat_tests) in
    let same : c.pairs.bytes.items ≡ bytes = hex_done c.args.digits.now c.pairs.bytes.items bytes c.pairs.rest.now c.pairs.invariant.so_far is c.pairs.invariant.in_range small none in
    ap Some (c.of.ensures ∙ same)
