use Rattle.std.proofs.Common.{rules}
use Rattle.conformance.specs.declared.rows.VectorEnd.TheVariants as run
use Rattle.as4_tool.specs.Suites.{output}
use Rattle.as4_tool.proofs.suites.verify.Goals as goal

pub returns-in-Done-clause-verifies : goal.returns-in-Done-clause-verifies
returns-in-Done-clause-verifies g c = (
  c.vectors.result,
  run.Done c.in-Done.differ,
  output (g.O.Sink.taken c.run_vectors.new.sink) (g.O.Sink.faults c.run_vectors.new.sink),
  search rules,
  c.in-Done.ensures.ends,
  c.verify_exchanges.ensures.verifies,
)
