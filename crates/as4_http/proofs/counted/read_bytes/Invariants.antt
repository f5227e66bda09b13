use Rattle.std.proofs.Common.{◌≡◌, ◌-◌, ◌≤◌}
use Rattle.as4_http.specs.Came.{Came}
use Rattle.as4_http.proofs.counted.read_bytes.Given as goal

abbrev pub invariant-pieces : goal.invariant-pieces
invariant-pieces g l = record {
  within : l.wanted ≤ l.n;
  came : Came (l.n - l.wanted) l.fn.body l.body (g.S.Source.left l.fn.source) (g.S.Source.left l.source);
  quiet : g.S.Source.faults l.source ≡ g.S.Source.faults l.fn.source;
}

abbrev pub decreases-pieces : goal.decreases-pieces
decreases-pieces g l = l.wanted
