use Rattle.std.proofs.Common.{◌≡◌}
use Rattle.book_tests.proofs.calls.enter_four.Given as goal

abbrev pub invariant-loop-call : goal.invariant-loop-call
invariant-loop-call l = (l.keeper.book ≡ l.fn.keeper.book) × (l.pass.book ≡ l.fn.pass.book)
