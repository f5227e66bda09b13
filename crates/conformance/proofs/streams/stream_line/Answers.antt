use Rattle.std.proofs.Common.{◌≡◌, ◌++◌, ◌∙◌, ℕ, List, Err, Some, true, false, ap, inl, refl, codes, if◌then◌else◌}
use Rattle.as4_flow.specs.InMemory.{SourceState}
use Rattle.as4_http.specs.Requests.{HasNoRequest}
use Rattle.conformance.specs.Exchanges.{IsStreamLine, request_line}
use Rattle.conformance.proofs.CutLemmas.{bad_target, if_also, no_request, target_cut, too_long_uncut}
use Rattle.conformance.proofs.streams.stream_line.Goals as goal

-- the source has the stream, and the intake nothing
pub is_cut-requires : goal.is_cut-requires
is_cut-requires c =
    let told : Some (c.new-3.result ++ c.of-source.result.bytes) ≡ Some c.args.stream.now =
    ap Some (ap (λ (l : List ℕ). l ++ c.of-source.result.bytes) c.new-3.ensures ∙ ap (λ (s : SourceState). s.bytes) c.of-source.ensures ∙ c.in_ok-bytes.ensures.items) in
    c.in-Err-Cut.ensures.begun (ap Err c.in-Err-Cut.field-0-is) c.args.stream.now told

pub returns-in-Ok : goal.returns-in-Ok
returns-in-Ok c =
    let told : Some (c.new-3.result ++ c.of-source.result.bytes) ≡ Some c.args.stream.now =
    ap Some (ap (λ (l : List ℕ). l ++ c.of-source.result.bytes) c.new-3.ensures ∙ ap (λ (s : SourceState). s.bytes) c.of-source.ensures ∙ c.in_ok-bytes.ensures.items) in
    if_also (λ (line : List ℕ). line ≡ request_line c.in-Ok.request) (IsStreamLine c.args.stream.now) c.request_line-line.result c.request_line-line.ensures
    λ line is. inl (c.in-Ok.request, _, c.in-Ok.ensures.found c.args.stream.now told _ refl, is)

pub returns-in-Err-Cut : goal.returns-in-Err-Cut
returns-in-Err-Cut c =
    let told : Some (c.new-3.result ++ c.of-source.result.bytes) ≡ Some c.args.stream.now =
    ap Some (ap (λ (l : List ℕ). l ++ c.of-source.result.bytes) c.new-3.ensures ∙ ap (λ (s : SourceState). s.bytes) c.of-source.ensures ∙ c.in_ok-bytes.ensures.items) in
    let only = rw c.in-Err-Cut.field-0-is at c.in-Err-Cut.ensures.only in
    let none : HasNoRequest c.args.stream.now = only c.args.stream.now told in
    if_also (λ (line : List ℕ). line ≡ (if c.is_cut.result then codes "cut\n" else codes "refused\n")) (IsStreamLine c.args.stream.now) c.no_request_line.result c.no_request_line.ensures
    λ line is. no_request c.args.stream.now line c.is_cut.result none c.is_cut.ensures is

pub returns-in-Err-Bad : goal.returns-in-Err-Bad
returns-in-Err-Bad c =
    let told : Some (c.new-3.result ++ c.of-source.result.bytes) ≡ Some c.args.stream.now =
    ap Some (ap (λ (l : List ℕ). l ++ c.of-source.result.bytes) c.new-3.ensures ∙ ap (λ (s : SourceState). s.bytes) c.of-source.ensures ∙ c.in_ok-bytes.ensures.items) in
    let only = rw c.in-Err-Bad.field-0-is at c.in-Err-Bad.ensures.only in
    let none : HasNoRequest c.args.stream.now = only c.args.stream.now told in
    if_also (λ (line : List ℕ). line ≡ (if c.is_in_target.result then codes "cut\n" else codes "refused\n")) (IsStreamLine c.args.stream.now) c.no_request_line-in-Err-Bad.result c.no_request_line-in-Err-Bad.ensures
    λ line is. no_request c.args.stream.now line c.is_in_target.result none (
      λ t. target_cut c.args.stream.now (c.is_in_target.ensures.0 t).0 (c.is_in_target.ensures.0 t).1,
      λ cut. c.is_in_target.ensures.1 (bad_target _ _ c.args.stream.now told (c.in-Err-Bad.ensures.bad (ap Err c.in-Err-Bad.field-0-is)) (c.in-Err-Bad.ensures.bad_head (ap Err c.in-Err-Bad.field-0-is)) cut),
    ) is

pub returns-in-Err-TooLong : goal.returns-in-Err-TooLong
returns-in-Err-TooLong c =
    let told : Some (c.new-3.result ++ c.of-source.result.bytes) ≡ Some c.args.stream.now =
    ap Some (ap (λ (l : List ℕ). l ++ c.of-source.result.bytes) c.new-3.ensures ∙ ap (λ (s : SourceState). s.bytes) c.of-source.ensures ∙ c.in_ok-bytes.ensures.items) in
    let only = rw c.in-Err-TooLong.field-0-is at c.in-Err-TooLong.ensures.only in
    let none : HasNoRequest c.args.stream.now = only c.args.stream.now told in
    if_also (λ (line : List ℕ). line ≡ codes "refused\n") (IsStreamLine c.args.stream.now) c.no_request_line-in-Err-TooLong.result c.no_request_line-in-Err-TooLong.ensures
    λ line is. no_request c.args.stream.now line false none (
      λ t. let e : false ≡ true = t in absurd cc,
      λ cut. absurd (too_long_uncut _ _ c.args.stream.now told (c.in-Err-TooLong.ensures.too_long (ap Err c.in-Err-TooLong.field-0-is)) (c.in-Err-TooLong.ensures.passed (ap Err c.in-Err-TooLong.field-0-is)) cut),
    ) is
