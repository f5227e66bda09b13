use Rattle.std.proofs.Common.{◌≡◌, Ok, ◌∙◌}
use Rattle.byte_forms.proofs.DecimalLemmas.{decimal_is_text, decimal_is_read, same_is_equal}
use Rattle.byte_forms.proofs.decimal.decimal_of.Goals as goal

pub returns-in_default-clause-only : goal.returns-in_default-clause-only
returns-in_default-clause-only c number small printed =
    absurd (c.in_default.ensures.cases.0 (decimal_is_text c.args.digits.now number small printed))

pub returns-in_default-parse-clause-only : goal.returns-in_default-parse-clause-only
returns-in_default-parse-clause-only c number small printed =
    let read : c.parse.result ≡ Ok number = decimal_is_read c.in-Ok.text.now number c.parse.result small (c.in-Ok.ensures.cases.0 ∙ printed) c.parse.ensures.value.0 in
    absurd (c.in_default-parse.not-Ok number read)

pub returns-then-ne-clause-only : goal.returns-then-ne-clause-only
returns-then-ne-clause-only c number small printed =
    let read : c.parse.result ≡ Ok number = decimal_is_read c.in-Ok.text.now number c.parse.result small (c.in-Ok.ensures.cases.0 ∙ printed) c.parse.ensures.value.0 in
    let number_read : c.in-Ok-parse.number ≡ number = cc in
    let printed_again : c.as_bytes.result.now ≡ c.args.digits.now = cc in
    absurd (same_is_equal c.as_bytes.result.now c.args.digits.now c.ne.result c.ne.ensures c.if-ne.true printed_again)

pub returns-clause-only : goal.returns-clause-only
returns-clause-only c number small printed =
    let read : c.parse.result ≡ Ok number = decimal_is_read c.in-Ok.text.now number c.parse.result small (c.in-Ok.ensures.cases.0 ∙ printed) c.parse.ensures.value.0 in
    cc
