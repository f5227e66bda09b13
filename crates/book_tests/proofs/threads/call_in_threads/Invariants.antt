use Rattle.std.proofs.Common.{◌≡◌}
use Rattle.book_tests.proofs.threads.call_in_threads.Given as goal

abbrev pub invariant-loop-caller : goal.invariant-loop-caller
invariant-loop-caller g l = l.pass.book ≡ g.J.Named.book
