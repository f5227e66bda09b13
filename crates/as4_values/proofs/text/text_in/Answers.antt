use Rattle.std.proofs.Common.{◌≡◌, length, inr, refl, arith}
use Rattle.std.specs.List.{prefix_len}
use Rattle.byte_forms.specs.Classes.{is_blank}
use Rattle.byte_forms.specs.Trimmed.{end_of}
use Rattle.as4_values.specs.Texts.{IsXml}
use Rattle.as4_values.proofs.TextLemmas.{Cut, all_blank, cut_here, core_is_right, core_too_long}
use Rattle.as4_values.proofs.text.text_in.Goals as goal

-- nothing but blanks
pub returns-then-end-start-clause-wrong : goal.returns-then-end-start-clause-wrong
returns-then-end-start-clause-wrong c =
    inr (inr (all_blank c.args.bytes.now c.end_without_blanks-end.result (omega (arith, c.run_len-start.ensures.value, c.if-end-start.true)) c.end_without_blanks-end.ensures.blank, refl))

-- more than the limit
pub returns-then-end-start-gt-MAX_TEXT-clause-wrong : goal.returns-then-end-start-gt-MAX_TEXT-clause-wrong
returns-then-end-start-gt-MAX_TEXT-clause-wrong c =
    let xml : IsXml c.args.bytes.now = c.in_default.ensures.none.0 refl in
    let cut : Cut c.args.bytes.now c.run_len-start.result c.end_without_blanks-end.result =
    rw (c.run_len-start.ensures.value, c.end_without_blanks-end.ensures.value) (cut_here c.args.bytes.now (omega (arith, c.run_len-start.ensures.value, c.end_without_blanks-end.ensures.value))) in
    core_too_long c.args.bytes.now c.run_len-start.result c.end_without_blanks-end.result xml cut (omega arith)

-- the core
pub returns-clause-found : goal.returns-clause-found
returns-clause-found c =
    let xml : IsXml c.args.bytes.now = c.in_default.ensures.none.0 refl in
    let cut : Cut c.args.bytes.now c.run_len-start.result c.end_without_blanks-end.result =
    rw (c.run_len-start.ensures.value, c.end_without_blanks-end.ensures.value) (cut_here c.args.bytes.now (omega (arith, c.run_len-start.ensures.value, c.end_without_blanks-end.ensures.value))) in
    core_is_right c.args.bytes.now c.run_len-start.result c.end_without_blanks-end.result xml cut (omega arith)
