use Rattle.std.proofs.Common.{length, ◌-◌, map}
use Rattle.journal.proofs.LoopLemmas.{IsReadTo}
use Rattle.journal.proofs.leaf.lend_records.Given as goal

abbrev pub invariant-records : goal.invariant-records
invariant-records l = IsReadTo l.version (map (λ body. body.now) l.bodies.items) l.gate l.leaf

abbrev pub decreases-records : goal.decreases-records
decreases-records l = length l.leaf - l.gate
