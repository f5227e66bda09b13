use Rattle.std.proofs.Common.{◌+◌, ◌-◌, ◌*◌, ◌≤◌}
use Rattle.drill.specs.Generating.{handed, to_push}
use Rattle.drill_world.specs.Transcript.{events_limit}
use Rattle.drill.proofs.GeneratedLemmas.{TakenSome}
use Rattle.drill.proofs.generated.take_all.Given as goal

abbrev pub invariant-takes : goal.invariant-takes
invariant-takes l = record {
  counter : l.now ≤ 2 * l.state.events;
  taken : TakenSome l.fn.counter l.fn.state l.now l.state;
  handed : handed l.state ≤ handed l.fn.state;
  few : l.state.events + 5 * to_push l.state.world.left.end ≤ l.fn.state.events + 5 * to_push l.fn.state.world.left.end;
}

abbrev pub decreases-takes : goal.decreases-takes
decreases-takes l = events_limit - l.state.events
