use Rattle.std.proofs.Common.{◌≡◌, ◌+◌, ◌-◌, length}
use Rattle.as4_flow.specs.Flow.{before}
use Rattle.as4_http.specs.Asked.{AsksOnlyAsNeeded}
use Rattle.as4_http.specs.ChunkLines.{HasNoLine}
use Rattle.as4_http.specs.Limits.{the_limits}
use Rattle.as4_http.specs.declared.limits.TheConstants.{MAX_CHUNK_LINE}
use Rattle.as4_http.proofs.chunk_line.take_line.Given as goal

abbrev pub invariant-pieces : goal.invariant-pieces
invariant-pieces g l = record {
  whole : before l.fn.intake (g.S.Source.left l.fn.source) ≡ before l.intake (g.S.Source.left l.source);
  asks : AsksOnlyAsNeeded (HasNoLine l.passed the_limits) l.fn.intake (g.S.Source.left l.fn.source) (g.S.Source.left l.source);
  quiet : g.S.Source.faults l.source ≡ g.S.Source.faults l.fn.source;
}

abbrev pub decreases-pieces : goal.decreases-pieces
decreases-pieces g l = MAX_CHUNK_LINE + 1 - length l.intake
