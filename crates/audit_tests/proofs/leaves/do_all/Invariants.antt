use Rattle.std.proofs.Common.{◌≡◌}
use Rattle.audit_tests.proofs.leaves.do_all.Given as goal

-- the pass is of the office
abbrev pub invariant-loop-deed : goal.invariant-loop-deed
invariant-loop-deed l = l.pass.book ≡ l.office.book
