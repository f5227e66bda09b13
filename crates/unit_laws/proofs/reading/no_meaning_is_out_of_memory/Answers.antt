use Rattle.unit_laws.proofs.MemoryLemmas.{never_memory}
use Rattle.unit_laws.proofs.reading.no_meaning_is_out_of_memory.Goals as goal

pub returns : goal.returns
returns c = never_memory
