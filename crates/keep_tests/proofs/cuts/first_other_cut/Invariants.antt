use Rattle.std.proofs.Common.{◌≡◌}
use Rattle.keep_tests.proofs.cuts.first_other_cut.Given as goal

abbrev pub invariant-loop-at : goal.invariant-loop-at
invariant-loop-at g l = l.pass.book ≡ g.J.Opening.book
