use Rattle.std.proofs.Common.{◌≡◌, ◌-◌, ◌≤◌, length, take}
use Rattle.as4_flow.specs.Flow.{appended}
use Rattle.as4_flow.proofs.sink.send_all.Given as goal

abbrev pub invariant-loop-sent : goal.invariant-loop-sent
invariant-loop-sent g l = record {
  within : l.sent ≤ length l.bytes;
  front : g.K.Sink.taken l.sink ≡ appended (g.K.Sink.taken l.fn.sink) (take l.sent l.bytes);
  untouched : l.sent ≡ 0 → l.sink ≡ l.fn.sink;
  quiet : g.K.Sink.faults l.sink ≡ g.K.Sink.faults l.fn.sink;
}

abbrev pub decreases-loop-sent : goal.decreases-loop-sent
decreases-loop-sent g l = length l.bytes - l.sent
