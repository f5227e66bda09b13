use Rattle.std.proofs.Common.{◌≡◌, ◌+◌, drop}
use Rattle.as4_audit.specs.Start.{run_from}
use Rattle.as4_audit.proofs.start.start_of.Given as goal

-- those so far are of the start
abbrev pub invariant-loop-item : goal.invariant-loop-item
invariant-loop-item l = record {
  counted : l.count ≡ l.item-index;
  run : run_from 1 l.records ≡ l.count + run_from l.stage (drop l.item-index l.records);
}
