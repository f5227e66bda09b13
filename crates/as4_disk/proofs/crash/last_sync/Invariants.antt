use Rattle.std.proofs.Common.{take}
use Rattle.as4_disk.specs.Picks.{EndWithLastSync}
use Rattle.as4_disk.proofs.crash.last_sync.Given as goal

abbrev pub invariant-loop-i : goal.invariant-loop-i
invariant-loop-i l = EndWithLastSync l.part (take l.i l.changes) l.synced
