use Rattle.std.proofs.Common.{◌≡◌, ◌+◌, ◌-◌, ◌<◌, ◌≤◌, length}
use Rattle.as4_flow.specs.Flow.{before}
use Rattle.as4_flow.proofs.reading.read_all.Given as goal

abbrev pub invariant-pieces : goal.invariant-pieces
invariant-pieces g l = record {
  within : length l.bytes.items ≤ l.limit + 1;
  has_room : 0 < length l.room.items;
  so_far : g.S.Source.left l.fn.source ≡ before l.bytes.items (g.S.Source.left l.source);
  quiet : g.S.Source.faults l.source ≡ g.S.Source.faults l.fn.source;
}

abbrev pub decreases-pieces : goal.decreases-pieces
decreases-pieces g l = l.limit + 1 - length l.bytes.items
