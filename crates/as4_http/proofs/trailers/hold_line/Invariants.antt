use Rattle.std.proofs.Common.{◌≡◌, ◌-◌, ◌≤◌, length, take}
use Rattle.as4_flow.specs.Flow.{before}
use Rattle.as4_http.specs.Asked.{AsksOnlyAsNeeded}
use Rattle.as4_http.specs.Limits.{the_limits}
use Rattle.as4_http.specs.Trailers.{HasNoLf, HasNoTrailers}
use Rattle.as4_http.proofs.trailers.hold_line.Given as goal

abbrev pub invariant-pieces : goal.invariant-pieces
invariant-pieces g l = record {
  within : l.scanned ≤ length l.intake;
  none : HasNoLf (take l.scanned l.intake);
  whole : before l.fn.intake (g.S.Source.left l.fn.source) ≡ before l.intake (g.S.Source.left l.source);
  asks : AsksOnlyAsNeeded (HasNoTrailers l.passed the_limits) l.fn.intake (g.S.Source.left l.fn.source) (g.S.Source.left l.source);
  quiet : g.S.Source.faults l.source ≡ g.S.Source.faults l.fn.source;
}

abbrev pub decreases-pieces : goal.decreases-pieces
decreases-pieces g l = l.most - length l.intake
