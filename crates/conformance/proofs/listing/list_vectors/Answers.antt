use Rattle.conformance.specs.Cases.{IsListedLine}
use Rattle.conformance.proofs.VerdictLemmas.{quiet_ends}
use Rattle.conformance.proofs.listing.list_vectors.Goals as goal

pub returns-clause-ends : goal.returns-clause-ends
returns-clause-ends g c = quiet_ends IsListedLine (λ row line differs is. is.1) c.args.rows.now _ c.run_rows.result _ c.of_run.ensures c.run_rows.ensures.ends
