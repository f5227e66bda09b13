use Rattle.std.proofs.Common.{◌≡◌, ◌-◌, ◌≤◌, List, length}
use Rattle.std.specs.Prelude.{All}
use Rattle.std.specs.List.{flat_map}
use Rattle.as4_flow.specs.Flow.{before}
use Rattle.as4_http.specs.Asked.{AsksOnlyAsNeeded}
use Rattle.as4_http.specs.Limits.{the_limits}
use Rattle.as4_http.specs.Trailers.{HasNoTrailers}
use Rattle.httparse.specs.Grammar.{Field, print_field, IsField}
use Rattle.as4_http.specs.declared.limits.TheConstants.{MAX_TRAILERS}
use Rattle.as4_http.proofs.trailers.take_trailers.Given as goal

abbrev pub invariant-lines : goal.invariant-lines
invariant-lines g l = record {
  fields : List Field;
  valid : All IsField fields;
  count : length (flat_map print_field fields) ≡ l.passed;
  within : l.passed ≤ MAX_TRAILERS;
  taken : before l.fn.intake (g.S.Source.left l.fn.source) ≡ before (flat_map print_field fields) (before l.intake (g.S.Source.left l.source));
  asks : AsksOnlyAsNeeded (HasNoTrailers 0 the_limits) l.fn.intake (g.S.Source.left l.fn.source) (g.S.Source.left l.source);
  quiet : g.S.Source.faults l.source ≡ g.S.Source.faults l.fn.source;
}

abbrev pub decreases-lines : goal.decreases-lines
decreases-lines g l = MAX_TRAILERS - l.passed
