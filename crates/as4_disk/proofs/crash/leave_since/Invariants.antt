use Rattle.std.proofs.Common.{◌≡◌, take}
use Rattle.as4_disk.specs.Picks.{left_by_all}
use Rattle.as4_disk.proofs.crash.leave_since.Given as goal

abbrev pub invariant-loop-change : goal.invariant-loop-change
invariant-loop-change l = l.octets ≡ left_by_all l.pick l.part (take l.change-index l.changes) l.initial.octets
