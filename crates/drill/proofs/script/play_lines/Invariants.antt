use Rattle.std.proofs.Common.{◌-◌, ◌≤◌}
use Rattle.as4_flow.specs.Flow.{Flow, flow}
use Rattle.drill.specs.Running.{SoFar}
use Rattle.drill_world.specs.Transcript.{lines_limit}
use Rattle.drill.proofs.script.play_lines.Given as goal

abbrev pub invariant-lines : goal.invariant-lines
invariant-lines g l = record {
  within : l.played ≤ lines_limit;
  so_far : (start : Flow)
      → SoFar g.P.Play l.fn.state l.fn.reader 0 start (flow (g.S.Source.left l.fn.source) (g.K.Sink.taken l.fn.sink) (g.S.Source.faults l.fn.source) (g.K.Sink.faults l.fn.sink))
      → SoFar g.P.Play l.state l.reader l.played start (flow (g.S.Source.left l.source) (g.K.Sink.taken l.sink) (g.S.Source.faults l.source) (g.K.Sink.faults l.sink));
  counted : (g.S.Source.faults l.fn.source ≤ g.S.Source.faults l.source) × (g.K.Sink.faults l.fn.sink ≤ g.K.Sink.faults l.sink);
}

abbrev pub decreases-lines : goal.decreases-lines
decreases-lines g l = lines_limit - l.played
