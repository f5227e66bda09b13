use Rattle.std.proofs.Common.{◌≡◌}
use Rattle.session_tests.proofs.locked.in_threads.Given as goal

abbrev pub invariant-loop-caller : goal.invariant-loop-caller
invariant-loop-caller g l = l.pass.book ≡ g.J.Opening.book
