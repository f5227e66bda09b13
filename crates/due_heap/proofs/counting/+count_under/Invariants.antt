use Rattle.std.proofs.Common.{◌-◌, length}
use Rattle.due_heap.proofs.counting.+count_under.Given as goal

abbrev pub decreases-count_under : goal.decreases-count_under
decreases-count_under a = length a.pairs.now - a.at
