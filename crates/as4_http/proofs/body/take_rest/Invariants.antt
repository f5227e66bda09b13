use Rattle.std.proofs.Common.{◌≡◌, ◌⊎◌, ◌+◌, ◌-◌, length}
use Rattle.as4_flow.specs.Flow.{before}
use Rattle.as4_http.specs.Asked.{GivesToLimit}
use Rattle.as4_http.specs.declared.limits.TheConstants.{MAX_BODY}
use Rattle.as4_http.proofs.body.take_rest.Given as goal

abbrev pub invariant-pieces : goal.invariant-pieces
invariant-pieces g l = record {
  taken : before l.fn.intake (g.S.Source.left l.fn.source) ≡ before l.body (before l.intake (g.S.Source.left l.source));
  whole : before l.intake (g.S.Source.left l.source) ≡ g.S.Source.left l.source;
  asks : (g.S.Source.left l.fn.source ≡ g.S.Source.left l.source) ⊎ GivesToLimit l.fn.intake (g.S.Source.left l.fn.source) (g.S.Source.left l.source);
  quiet : g.S.Source.faults l.source ≡ g.S.Source.faults l.fn.source;
}

abbrev pub decreases-pieces : goal.decreases-pieces
decreases-pieces g l = MAX_BODY + 1 - length l.body
