use Rattle.std.proofs.Common.{◌≡◌}
use Rattle.audit_tests.proofs.leaves.step_all.Given as goal

-- the pass is of the office
abbrev pub invariant-loop-event : goal.invariant-loop-event
invariant-loop-event l =
    (goal.iterator-loop-event).can_next l.event-iterator ×
    (goal.iterator-loop-event).is_finite l.event-iterator ×
    l.pass.book ≡ l.office.book
