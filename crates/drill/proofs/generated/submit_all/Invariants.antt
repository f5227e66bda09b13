use Rattle.std.proofs.Common.{◌-◌, ◌≤◌}
use Rattle.drill.proofs.GeneratedLemmas.{SubmitsSoFar}
use Rattle.drill.proofs.generated.submit_all.Given as goal

abbrev pub invariant-messages : goal.invariant-messages
invariant-messages l = record {
  within : l.sent ≤ l.fn.count;
  so_far : SubmitsSoFar l.fn.seed l.fn.state l.sent l.number l.state;
}

abbrev pub decreases-messages : goal.decreases-messages
decreases-messages l = l.fn.count - l.sent
