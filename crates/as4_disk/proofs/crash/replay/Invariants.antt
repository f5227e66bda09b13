use Rattle.std.proofs.Common.{◌≡◌, take}
use Rattle.as4_disk.specs.Changes.{bytes_by}
use Rattle.as4_disk.proofs.crash.replay.Given as goal

abbrev pub invariant-loop-change : goal.invariant-loop-change
invariant-loop-change l = l.octets ≡ bytes_by l.part (take l.change-index l.changes) l.initial.octets
