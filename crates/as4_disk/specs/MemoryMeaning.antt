-- The meaning of a disk in memory, for lemmas that name it.
use Rattle.std.specs.Prelude.{length, Some}
use Rattle.as4_disk.specs.declared.disk.Disk.{Ghosts as DiskMeaning}
use Rattle.as4_disk.specs.Changes.{LeftSince}
use Rattle.as4_disk.specs.Memory.{DiskState, MakesChange, MayLeave, reads}

abbrev pub memory_meaning : DiskMeaning DiskState
memory_meaning = record {
  seen = λ disk. Some (reads disk);
  may_leave = λ disk c. MayLeave disk c;
  moment = λ disk. length disk.changes;
  left_since = λ disk t c. LeftSince disk.first disk.changes t c;
  fault_count = λ disk. disk.faults;
  makes = λ change old new ok. MakesChange change old new ok;
}
