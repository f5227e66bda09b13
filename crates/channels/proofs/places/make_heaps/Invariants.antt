use Rattle.std.proofs.Common.{◌-◌}
use Rattle.channels.specs.Keeping.{KeepsHeaps}
use Rattle.channels.proofs.places.make_heaps.Given as goal

-- heaps were added, and nothing else has changed
abbrev pub invariant-loop-heaps : goal.invariant-loop-heaps
invariant-loop-heaps l = KeepsHeaps l.fn.heaps l.heaps

abbrev pub decreases-loop-heaps : goal.decreases-loop-heaps
decreases-loop-heaps l = l.count - l.heaps.count
