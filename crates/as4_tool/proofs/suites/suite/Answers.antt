use Rattle.std.proofs.Common.{rules}
use Rattle.as4_tool.specs.declared.command.Suite.TheVariants as what
use Rattle.as4_tool.proofs.SuiteLemmas.{suite_runs}
use Rattle.as4_tool.proofs.suites.suite.Goals as goal

pub returns-in-Check : goal.returns-in-Check
returns-in-Check g c left reads =
    rw c.in-Check.is (suite_runs what.Check c.of_suite.result left reads _ _ _ _
    (c.cases.result, c.run_suite.result, search rules, c.of_suite.ensures, c.run_suite.ensures.ends) c.run_suite.ensures.counted)

pub returns-in-Verify : goal.returns-in-Verify
returns-in-Verify g c left reads =
    rw c.in-Verify.is (suite_runs what.Verify c.verify.result left reads _ _ _ _ c.verify.ensures.verifies c.verify.ensures.counted)

pub returns-in-List : goal.returns-in-List
returns-in-List g c left reads =
    rw c.in-List.is (suite_runs what.List c.of_suite-in-List.result left reads _ _ _ _
    (c.listed.result, c.list_vectors.result, search rules, c.of_suite-in-List.ensures, c.list_vectors.ensures.ends) c.list_vectors.ensures.counted)
