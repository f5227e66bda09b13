use Rattle.std.proofs.Common.{◌∷◌, ◌++◌, [], arith}
use Rattle.std.proofs.lemmas.Grind.{common_steps}
use Rattle.std.proofs.lemmas.Option.{MatchOption-at_some}
use Rattle.journal_tests.proofs.ready.open_all.Goals as goal

pub loop-body-preserved : goal.loop-body-preserved
loop-body-preserved g c = record {
  read = λ b told. (let before = c.loop-body.invariant.read b told in
      (before.0 ++ c.in-Ok-Some.body ∷ [], MatchOption-at_some _ _ _ c.in-Ok-Some.field-0-is c.in-Ok-Some.ensures.record before.0 before.1));
  no_fold = grind (arith, common_steps);
}
