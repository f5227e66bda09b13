use Rattle.std.proofs.Common.{◌≡◌, ap, ◌∙◌}
use Rattle.std.specs.Str.{bytes_eq}
use Rattle.conformance.specs.Exchanges.{IsStreamLine}
use Rattle.conformance.proofs.VerdictLemmas.{one_stream_line, text_right, text_wrong, verdict_told}
use Rattle.conformance.proofs.exchange.ExchangeRow.line.Goals as goal

pub returns : goal.returns
returns c =
    let stream = c.args.self.now.stream.now in
    let want = c.args.self.now.want.now in
    let line = c.in_ok-line.line in
    let compared : c.eq-is_right.result ≡ bytes_eq line want = c.eq-is_right.ensures ∙ ap (λ l. bytes_eq l want) c.bytes.ensures in
    verdict_told (IsStreamLine stream want) c.args.self.now.name.now c.eq-is_right.result c.verdict.result c.verdict.ensures.text c.verdict.ensures.differs
    (text_right (IsStreamLine stream) line want c.eq-is_right.result c.in_ok-line.ensures compared)
    (text_wrong (IsStreamLine stream) line want c.eq-is_right.result (λ other. one_stream_line c.one_request.ensures stream line other c.in_ok-line.ensures) compared)
