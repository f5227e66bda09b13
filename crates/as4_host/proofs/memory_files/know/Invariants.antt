use Rattle.std.proofs.Common.{[], None, take}
use Rattle.as4_host.specs.HostInMemory.{AreKnown}
use Rattle.as4_host.specs.Rows.{value_at, GetsRow}
use Rattle.as4_host.proofs.memory_files.know.Given as goal

abbrev pub invariant-loop-name : goal.invariant-loop-name
invariant-loop-name l = record {
  known : AreKnown (take l.name-index l.names) l.files.items l.doors.items;
  files : GetsRow None (value_at l.fn.files.items) (value_at l.files.items);
  doors : GetsRow [] (value_at l.fn.doors.items) (value_at l.doors.items);
}
