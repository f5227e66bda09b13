use Rattle.std.proofs.Common.{◌≡◌, ◌≤◌, ℕ, List, take}
use Rattle.as4_flow.specs.Flow.{appended}
use Rattle.conformance.specs.Ran.{AreLines}
use Rattle.conformance.proofs.rows.run_rows.Given as goal

-- the lines of the rows so far were written, and the sink hasn't failed
abbrev pub invariant-loop-row : goal.invariant-loop-row
invariant-loop-row g l = record {
  lines : (text : List ℕ) × AreLines g.R.Row.IsLine (take l.row-index l.rows) text l.differ × (g.K.Sink.taken l.sink ≡ appended (g.K.Sink.taken l.fn.sink) text);
  few : l.differ ≤ l.row-index;
  quiet : g.K.Sink.faults l.sink ≡ g.K.Sink.faults l.fn.sink;
}
