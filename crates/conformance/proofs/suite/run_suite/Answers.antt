use Rattle.conformance.specs.Cases.{IsCaseLine}
use Rattle.conformance.proofs.VerdictLemmas.{quiet_ends}
use Rattle.conformance.proofs.suite.run_suite.Goals as goal

pub returns-clause-ends : goal.returns-clause-ends
returns-clause-ends g c = quiet_ends IsCaseLine (λ case line differs is. is.3) c.args.cases.now _ c.run_rows.result _ c.of_run.ensures c.run_rows.ensures.ends
