use Rattle.std.proofs.Common.{◌≡◌, ap, ◌∙◌}
use Rattle.std.specs.Str.{bytes_eq}
use Rattle.conformance.specs.Cases.{IsCheckLine}
use Rattle.conformance.proofs.VerdictLemmas.{one_check_line, text_right, text_wrong, verdict_told}
use Rattle.conformance.proofs.checking.VectorRow.line.Goals as goal

pub returns : goal.returns
returns c =
    let case = c.args.self.now.case in
    let want = c.args.self.now.want.now in
    let line = c.in_ok-line.line.text in
    let check : IsCheckLine case line = (c.in_ok-line.line.refused, c.in_ok-line.ensures) in
    let compared : c.eq-is_right.result ≡ bytes_eq line want = c.eq-is_right.ensures ∙ ap (λ l. bytes_eq l want) c.bytes.ensures in
    verdict_told (IsCheckLine case want) case.name.now c.eq-is_right.result c.verdict.result c.verdict.ensures.text c.verdict.ensures.differs
    (text_right (IsCheckLine case) line want c.eq-is_right.result check compared)
    (text_wrong (IsCheckLine case) line want c.eq-is_right.result (λ other. one_check_line c.one_meaning.ensures case line other check) compared)
