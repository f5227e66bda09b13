use Rattle.std.proofs.Common.{◌≡◌, ◌≤◌, ℕ, List, ◌++◌, length, Some, ap, refl, ◌∙◌, arith}
use Rattle.as4_flow.specs.Flow.{before}
use Rattle.as4_flow.specs.InMemory.{SourceState}
use Rattle.as4_http.specs.declared.limits.TheConstants.{MAX_BODY}
use Rattle.carrier.proofs.ReplyLemmas.{reply_read}
use Rattle.carrier.proofs.replies.reply_in.Goals as goal

pub returns-in-Ok : goal.returns-in-Ok
returns-in-Ok c =
    let bytes : c.of-source.result.bytes ≡ c.args.response = ap (λ (s : SourceState). s.bytes) c.of-source.ensures ∙ c.into_vec.ensures in
    let stream = ap (λ (h : List ℕ). before h (Some c.of-source.result.bytes)) c.new-3.ensures ∙ ap Some bytes in
    let rest = c.in-Ok.intake ++ c.read_response-read.new.source.bytes in
    let few : length c.args.response ≤ MAX_BODY = omega (arith, c.if-bytes-gt-MAX_BODY.false, ap length c.bytes.ensures) in
    reply_read c.reply_by.result c.one_response.ensures c.response_read_back.ensures.closed c.args.response rest c.in-Ok.response few
    (c.in-Ok.ensures.found c.args.response stream rest refl) c.reply_by.ensures.quiet c.reply_by.ensures.answer
