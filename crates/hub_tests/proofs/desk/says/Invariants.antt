use Rattle.std.proofs.Common.{◌≡◌}
use Rattle.hub_tests.proofs.desk.says.Given as goal

-- the pass is one of this office
abbrev pub invariant-loop-step : goal.invariant-loop-step
invariant-loop-step l = l.pass.book ≡ l.office.book
