use Rattle.as4_http.specs.Came.{IsShorter}
use Rattle.as4_http.specs.ChunkLines.{IsCrlf, HasNoCrlf}
use Rattle.as4_http.specs.Chunks.{HasNoChunk, IsWholeChunk}
use Rattle.as4_http.specs.Refused.{MayBecome}
use Rattle.as4_http.proofs.AskedLemmas.{asks_as}
use Rattle.as4_http.proofs.ChunkedLemmas.{asks_crlf, chunk_none, chunk_shorter, crlf_may}
use Rattle.as4_http.proofs.RefusedLemmas.{refused_weaker, refuses_behind, stop_exit}
use Rattle.as4_http.proofs.chunks.take_chunk.Goals as goal

pub returns-in_err-take_bytes-clause-refused : goal.returns-in_err-take_bytes-clause-refused
returns-in_err-take_bytes-clause-refused g c =
    stop_exit (λ _. HasNoChunk c.args.size) (MayBecome (IsWholeChunk c.args.size)) (IsShorter c.args.size) _ (g.S.Source.left c.take_bytes.new.source) c.from_residual.result c.in_err-take_bytes.field-0.0 c.from_residual.ensures.1 c.in_err-take_bytes.ensures.stop (chunk_shorter c.args.size) c.in_err-take_bytes.ensures.none

pub returns-clause-refused : goal.returns-clause-refused
returns-clause-refused g c =
    let came = c.in_ok-take_bytes.ensures.ok in
    refused_weaker c.take_crlf.result (refuses_behind (λ _. HasNoCrlf) (λ _. HasNoChunk c.args.size) (MayBecome IsCrlf) (MayBecome (IsWholeChunk c.args.size)) _ _ _ came.piece came.taken (λ _ rest. chunk_none c.args.size came.piece rest came.count) (crlf_may c.args.size came.piece came.count)) c.take_crlf.ensures.refused

pub returns-in_err-take_bytes-clause-asks : goal.returns-in_err-take_bytes-clause-asks
returns-in_err-take_bytes-clause-asks g c =
    asks_as (IsShorter c.args.size) (HasNoChunk c.args.size) c.args.intake.now _ _ (λ bytes short. (chunk_shorter c.args.size bytes short).0) c.in_err-take_bytes.ensures.asks

pub returns-clause-asks : goal.returns-clause-asks
returns-clause-asks g c =
    let came = c.in_ok-take_bytes.ensures.ok in
    asks_crlf c.args.size came.piece c.args.intake.now _ _ _ _ came.count came.taken c.in_ok-take_bytes.ensures.asks c.take_crlf.ensures.asks
