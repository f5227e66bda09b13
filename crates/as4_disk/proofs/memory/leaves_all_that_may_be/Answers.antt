use Rattle.as4_disk.specs.MemoryLaws.{picked_left}
use Rattle.as4_disk.specs.declared.change.Change.TheVariants.{Wrote, WasCut, Synced}
use Rattle.as4_disk.proofs.MemoryLemmas.{left_by_change}
use Rattle.as4_disk.proofs.memory.leaves_all_that_may_be.Goals as goal

pub returns-clause-writes : goal.returns-clause-writes
returns-clause-writes c disk part at bytes before after may torn = left_by_change disk (Wrote part at bytes) after (before, may, torn)

pub returns-clause-cuts : goal.returns-clause-cuts
returns-clause-cuts c disk part len before after may torn = left_by_change disk (WasCut part len) after (before, may, torn)

pub returns-clause-syncs : goal.returns-clause-syncs
returns-clause-syncs c disk part after may is_read = left_by_change disk (Synced part) after (may, is_read)

pub returns-clause-picks : goal.returns-clause-picks
returns-clause-picks c = picked_left
