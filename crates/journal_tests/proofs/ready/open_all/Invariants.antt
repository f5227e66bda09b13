use Rattle.std.proofs.Common.{List, ℕ, ◌-◌, ◌^◌}
use Rattle.std.specs.Prelude.{IsNone}
use Rattle.as4_flow.specs.Flow.{Told}
use Rattle.journal.specs.State.{HasRead}
use Rattle.journal_tests.proofs.ready.open_all.Given as goal

abbrev pub invariant-loop-body : goal.invariant-loop-body
invariant-loop-body g l = record {
  read : Told (g.D.Disk.seen l.fn.disk) (λ _. (all : List (List ℕ)) × HasRead g.D.Disk l.journal all);
  no_fold : IsNone l.journal.fold;
}

abbrev pub decreases-loop-body : goal.decreases-loop-body
decreases-loop-body g l = 2 ^ 32 - l.journal.gate
