use Rattle.std.proofs.Common.{◌+◌, ◌*◌, ◌-◌, ◌≤◌}
use Rattle.drill.specs.Generating.{handed}
use Rattle.drill.proofs.GeneratedLemmas.{RoundsOn}
use Rattle.drill.proofs.generated.play_rounds.Given as goal

abbrev pub invariant-rounds : goal.invariant-rounds
invariant-rounds l = record {
  within : l.round ≤ 11;
  counter : l.counter ≤ 2 * l.state.events;
  handed : handed l.state ≤ 1000;
  few : l.state.events ≤ 1000 + l.round * 5002;
  on : RoundsOn l.fn.state l.round l.counter l.state;
}

abbrev pub decreases-rounds : goal.decreases-rounds
decreases-rounds l = 11 - l.round
