use Rattle.std.proofs.Common.{◌≡◌, ℕ, ◌++◌, ◌∷◌, [], Err, refl, sym, ◌∙◌, ap, subst, arith, length, length-append}
use Rattle.std.proofs.lemmas.List.Elements.{All-nil, All-push}
use Rattle.std.proofs.lemmas.Result.{on_ok_weaker}
use Rattle.std.specs.List.{flat_map}
use Rattle.as4_flow.specs.Flow.{before}
use Rattle.httparse.specs.Grammar.{print_chunk_line}
use Rattle.as4_http.specs.ChunkLines.{TakesLine}
use Rattle.as4_http.specs.Chunks.{IsChunk, IsShortChunk, HasNoChunk, HasNoChunked, IsWholeChunk, IsWholeChunked, print_chunk, joined}
use Rattle.as4_http.specs.Limits.{the_limits}
use Rattle.as4_http.specs.Refused.{MayBecome}
use Rattle.as4_http.specs.Trailers.{AreTrailers, HasNoTrailers}
use Rattle.as4_flow.proofs.FlowLemmas.{before_nil}
use Rattle.as4_http.proofs.AskedLemmas.{asks_nothing}
use Rattle.as4_http.proofs.ChunkedLemmas.{asks_line, asks_next, chunks_show, last_shows, refuses_line, refuses_next, passed_of, chunk_may, trailers_may, goes_to_trailers, goes_to_chunk, chunked, made, chunk_taken, chunk_joined}
use Rattle.as4_http.proofs.PassedLemmas.{too_long_exit}
use Rattle.as4_http.proofs.RefusedLemmas.{refused_exit, refused_weaker, may_behind_two}
use Rattle.as4_http.proofs.chunks.take_chunks.Goals as goal

pub take_line-requires : goal.take_line-requires
take_line-requires g c = omega (arith, c.chunks.invariant.within, c.len.ensures)

pub returns-in_err-size-clause-refused : goal.returns-in_err-size-clause-refused
returns-in_err-size-clause-refused g c =
    let passed : c.len.result ≡ length (joined c.chunks.invariant.chunks) = c.len.ensures ∙ ap length c.chunks.invariant.joins in
    refused_exit c.from_residual.result c.in_err-size.field-0.0 c.from_residual.ensures.1
    (refuses_line c.chunks.invariant.chunks _ _ _ _ passed (passed_of c.chunks.invariant.chunks c.chunks.body c.chunks.invariant.valid c.chunks.invariant.short c.chunks.invariant.joins c.chunks.invariant.within) c.chunks.invariant.taken)
    c.in_err-size.ensures.refused

pub returns-in_err-size-clause-passed : goal.returns-in_err-size-clause-passed
returns-in_err-size-clause-passed g c =
    let passed : c.len.result ≡ length (joined c.chunks.invariant.chunks) = c.len.ensures ∙ ap length c.chunks.invariant.joins in
    too_long_exit c.from_residual.result c.in_err-size.field-0.0 c.from_residual.ensures.1
    (λ is. chunks_show c.chunks.invariant.chunks c.len.result _ _ _ (passed_of c.chunks.invariant.chunks c.chunks.body c.chunks.invariant.valid c.chunks.invariant.short c.chunks.invariant.joins c.chunks.invariant.within) passed c.chunks.invariant.taken (c.in_err-size.ensures.passed (ap Err is)))

pub returns-then-size-eq0-clause-passed : goal.returns-then-size-eq0-clause-passed
returns-then-size-eq0-clause-passed g c =
    let line = c.in_ok-size.ensures.ok in
    let zero : _ ≡ 0 = sym line.says ∙ c.if-size-eq0.true in
    λ is. last_shows c.chunks.invariant.chunks line.line _ _ _ _ (passed_of c.chunks.invariant.chunks c.chunks.body c.chunks.invariant.valid c.chunks.invariant.short c.chunks.invariant.joins c.chunks.invariant.within) line.valid zero c.chunks.invariant.taken line.taken (c.take_trailers.ensures.passed is)

pub returns-then-size-eq0-clause-ok : goal.returns-then-size-eq0-clause-ok
returns-then-size-eq0-clause-ok g c =
    let line = c.in_ok-size.ensures.ok in
    let last : TakesLine _ _ 0 = subst (λ (n : ℕ). TakesLine (before c.chunks.intake (g.S.Source.left c.chunks.source)) (before c.take_line.new.intake (g.S.Source.left c.take_line.new.source)) n) c.if-size-eq0.true line in
    on_ok_weaker c.take_trailers.result (λ trailers. chunked c.chunks.invariant.chunks c.chunks.body _ _ _ _ last trailers c.chunks.invariant.valid c.chunks.invariant.short c.chunks.invariant.joins c.chunks.invariant.within c.chunks.invariant.taken) c.take_trailers.ensures.ok

pub returns-then-size-eq0-clause-refused : goal.returns-then-size-eq0-clause-refused
returns-then-size-eq0-clause-refused g c =
    let line = c.in_ok-size.ensures.ok in
    let zero : _ ≡ 0 = sym line.says ∙ c.if-size-eq0.true in
    refused_weaker c.take_trailers.result (refuses_next (HasNoTrailers 0) (MayBecome (AreTrailers 0)) c.chunks.invariant.chunks line.line _ _ _ _ c.chunks.invariant.valid c.chunks.invariant.taken line.taken (λ limits behind none. goes_to_trailers limits c.chunks.invariant.chunks line.line behind line.valid zero none) (may_behind_two (AreTrailers 0) IsWholeChunked (flat_map print_chunk c.chunks.invariant.chunks) (print_chunk_line line.line) (trailers_may c.chunks.invariant.chunks line.line (passed_of c.chunks.invariant.chunks c.chunks.body c.chunks.invariant.valid c.chunks.invariant.short c.chunks.invariant.joins c.chunks.invariant.within) line.valid line.short zero))) c.take_trailers.ensures.refused

pub returns-in_err-take_chunk-clause-refused : goal.returns-in_err-take_chunk-clause-refused
returns-in_err-take_chunk-clause-refused g c =
    let line = c.in_ok-size.ensures.ok in
    refused_exit c.from_residual-in_err-take_chunk.result c.in_err-take_chunk.field-0.0 c.from_residual-in_err-take_chunk.ensures.1
    (refuses_next (λ _. HasNoChunk c.in_ok-size.size) (MayBecome (IsWholeChunk c.in_ok-size.size)) c.chunks.invariant.chunks line.line _ _ _ _ c.chunks.invariant.valid c.chunks.invariant.taken line.taken
    (λ limits behind none. goes_to_chunk limits c.chunks.invariant.chunks line.line behind line.valid (omega (arith, line.says)) (subst (λ (n : ℕ). HasNoChunk n behind) line.says none))
    (may_behind_two (IsWholeChunk c.in_ok-size.size) IsWholeChunked (flat_map print_chunk c.chunks.invariant.chunks) (print_chunk_line line.line) (λ behind whole. chunk_may c.chunks.invariant.chunks line.line (passed_of c.chunks.invariant.chunks c.chunks.body c.chunks.invariant.valid c.chunks.invariant.short c.chunks.invariant.joins c.chunks.invariant.within) line.valid line.short (omega (arith, line.says)) (omega (arith, line.says, c.in_ok-size.ensures.within, c.len.ensures, ap length c.chunks.invariant.joins)) behind (subst (λ (n : ℕ). IsWholeChunk n behind) line.says whole))))
    c.in_err-take_chunk.ensures.refused

pub chunks-preserved : goal.chunks-preserved
chunks-preserved g c =
    let line = c.in_ok-size.ensures.ok in
    let chunk = c.in_ok-take_chunk.ensures.ok in record {
      chunks = c.chunks.invariant.chunks ++ made line.line chunk.piece ∷ [];
      valid = All-push IsChunk c.chunks.invariant.chunks (made line.line chunk.piece) c.chunks.invariant.valid (record { line = line.valid; some = omega (arith, chunk.count); size = sym line.says ∙ sym chunk.count });
      short = All-push (IsShortChunk the_limits) c.chunks.invariant.chunks (made line.line chunk.piece) c.chunks.invariant.short line.short;
      joins = chunk_joined c.chunks.invariant.chunks line.line c.chunks.body c.take_chunk.new.body chunk.piece c.chunks.invariant.joins chunk.held;
      within = omega (arith, c.in_ok-size.ensures.within, c.len.ensures, ap length chunk.held, length-append c.chunks.body chunk.piece, chunk.count);
      taken = chunk_taken c.chunks.invariant.chunks line.line chunk.piece _ _ _ _ c.chunks.invariant.taken line.taken chunk.taken;
      asks = asks_next (HasNoChunk c.in_ok-size.size) c.chunks.invariant.chunks line.line c.args.intake.now c.chunks.intake c.take_line.new.intake _ _ _ _ c.chunks.invariant.valid c.chunks.invariant.taken line.taken
          (λ rest none. goes_to_chunk the_limits c.chunks.invariant.chunks line.line rest line.valid (omega (arith, line.says)) (subst (λ (n : ℕ). HasNoChunk n rest) line.says none))
          (asks_line c.chunks.invariant.chunks c.len.result c.args.intake.now c.chunks.intake _ _ _ (c.len.ensures ∙ ap length c.chunks.invariant.joins) c.chunks.invariant.valid c.chunks.invariant.taken c.chunks.invariant.asks c.in_ok-size.ensures.asks)
          c.in_ok-take_chunk.ensures.asks;
      quiet = c.in_ok-take_chunk.ensures.quiet (λ clash. cc) ∙ c.in_ok-size.ensures.quiet (λ clash. cc) ∙ c.chunks.invariant.quiet;
    }

pub chunks-init : goal.chunks-init
chunks-init g c = record {
  chunks = [];
  valid = All-nil IsChunk;
  short = All-nil (IsShortChunk the_limits);
  joins = c.requires;
  within = omega (arith, ap length c.requires);
  taken = sym (before_nil _);
  asks = asks_nothing (HasNoChunked the_limits) c.args.intake.now _ _ refl;
  quiet = refl;
}

pub returns-in_err-size-clause-asks : goal.returns-in_err-size-clause-asks
returns-in_err-size-clause-asks g c =
    asks_line c.chunks.invariant.chunks c.len.result c.args.intake.now c.chunks.intake _ _ _ (c.len.ensures ∙ ap length c.chunks.invariant.joins) c.chunks.invariant.valid c.chunks.invariant.taken c.chunks.invariant.asks c.in_err-size.ensures.asks

pub returns-then-size-eq0-clause-asks : goal.returns-then-size-eq0-clause-asks
returns-then-size-eq0-clause-asks g c =
    let line = c.in_ok-size.ensures.ok in
    asks_next (HasNoTrailers 0 the_limits) c.chunks.invariant.chunks line.line c.args.intake.now c.chunks.intake c.take_line.new.intake _ _ _ _ c.chunks.invariant.valid c.chunks.invariant.taken line.taken
    (λ rest. goes_to_trailers the_limits c.chunks.invariant.chunks line.line rest line.valid (sym line.says ∙ c.if-size-eq0.true))
    (asks_line c.chunks.invariant.chunks c.len.result c.args.intake.now c.chunks.intake _ _ _ (c.len.ensures ∙ ap length c.chunks.invariant.joins) c.chunks.invariant.valid c.chunks.invariant.taken c.chunks.invariant.asks c.in_ok-size.ensures.asks)
    c.take_trailers.ensures.asks

pub returns-in_err-take_chunk-clause-asks : goal.returns-in_err-take_chunk-clause-asks
returns-in_err-take_chunk-clause-asks g c =
    let line = c.in_ok-size.ensures.ok in
    asks_next (HasNoChunk c.in_ok-size.size) c.chunks.invariant.chunks line.line c.args.intake.now c.chunks.intake c.take_line.new.intake _ _ _ _ c.chunks.invariant.valid c.chunks.invariant.taken line.taken
    (λ rest none. goes_to_chunk the_limits c.chunks.invariant.chunks line.line rest line.valid (omega (arith, line.says)) (subst (λ (n : ℕ). HasNoChunk n rest) line.says none))
    (asks_line c.chunks.invariant.chunks c.len.result c.args.intake.now c.chunks.intake _ _ _ (c.len.ensures ∙ ap length c.chunks.invariant.joins) c.chunks.invariant.valid c.chunks.invariant.taken c.chunks.invariant.asks c.in_ok-size.ensures.asks)
    c.in_err-take_chunk.ensures.asks
