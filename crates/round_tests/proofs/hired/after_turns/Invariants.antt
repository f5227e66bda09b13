use Rattle.std.proofs.Common.{◌≡◌}
use Rattle.round_tests.proofs.hired.after_turns.Given as goal

abbrev pub invariant-loop-n : goal.invariant-loop-n
invariant-loop-n g l = l.pass.book ≡ g.J.Opening.book
