use Rattle.std.proofs.Common.{◌≡◌, ◌-◌, ◌≤◌, List, length}
use Rattle.std.specs.Prelude.{All}
use Rattle.std.specs.List.{flat_map}
use Rattle.as4_flow.specs.Flow.{before}
use Rattle.as4_http.specs.Asked.{AsksOnlyAsNeeded}
use Rattle.as4_http.specs.Chunks.{Chunk, print_chunk, IsChunk, IsShortChunk, joined, HasNoChunked}
use Rattle.as4_http.specs.Limits.{the_limits}
use Rattle.as4_http.specs.declared.limits.TheConstants.{MAX_BODY}
use Rattle.as4_http.proofs.chunks.take_chunks.Given as goal

abbrev pub invariant-chunks : goal.invariant-chunks
invariant-chunks g l = record {
  chunks : List Chunk;
  valid : All IsChunk chunks;
  short : All (IsShortChunk the_limits) chunks;
  joins : l.body ≡ joined chunks;
  within : length l.body ≤ MAX_BODY;
  taken : before l.fn.intake (g.S.Source.left l.fn.source) ≡ before (flat_map print_chunk chunks) (before l.intake (g.S.Source.left l.source));
  asks : AsksOnlyAsNeeded (HasNoChunked the_limits) l.fn.intake (g.S.Source.left l.fn.source) (g.S.Source.left l.source);
  quiet : g.S.Source.faults l.source ≡ g.S.Source.faults l.fn.source;
}

abbrev pub decreases-chunks : goal.decreases-chunks
decreases-chunks g l = MAX_BODY - length l.body
