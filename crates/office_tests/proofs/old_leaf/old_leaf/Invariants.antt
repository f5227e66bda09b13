use Rattle.std.proofs.Common.{length}
use Rattle.office_tests.proofs.old_leaf.old_leaf.Given as goal

abbrev pub decreases-records : goal.decreases-records
decreases-records l = length l.rest
