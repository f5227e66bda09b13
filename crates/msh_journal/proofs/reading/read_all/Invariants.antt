use Rattle.std.proofs.Common.{◌≡◌, ℕ, ◌-◌, ◌^◌, List, []}
use Rattle.as4_disk.specs.Leaving.{LeavesOnly, Quiet}
use Rattle.as4_flow.specs.Flow.{Told}
use Rattle.journal.specs.State.{HasRead}
use Rattle.journal.specs.Store.{Reopens}
use Rattle.msh_journal.specs.Reading.{HasReplayed}
use Rattle.msh_journal.proofs.reading.read_all.Given as goal

-- what was read so far
abbrev pub invariant-records : goal.invariant-records
invariant-records g l = record {
  replayed : (bodies : List (List ℕ)) × HasReplayed g.D.Disk l.fn.journal l.journal l.core.end l.core.places bodies;
  modes : l.core.modes ≡ l.fn.core.modes;
  run : HasRead g.D.Disk l.fn.journal [] → Told (g.D.Disk.seen l.fn.journal.disk) (λ b. LeavesOnly g.D.Disk l.fn.journal.disk l.journal.disk (Reopens b));
  quiet : Quiet g.D.Disk l.fn.journal.disk l.journal.disk;
  counted : g.D.Disk.fault_count l.journal.disk ≡ g.D.Disk.fault_count l.fn.journal.disk;
}

abbrev pub decreases-records : goal.decreases-records
decreases-records g l = 2 ^ 32 - l.journal.gate
