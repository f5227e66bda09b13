use Rattle.std.proofs.Common.{◌≡◌, ◌⊎◌, ◌+◌, ◌-◌, ◌≤◌, length, take}
use Rattle.as4_flow.specs.Flow.{before}
use Rattle.byte_forms.specs.Parted.{Lacks}
use Rattle.drill_script.specs.LineText.{line_limit}
use Rattle.drill_script.specs.Lines.{BeginsLong, ahead_limit}
use Rattle.drill_script.proofs.lines.LineReader.next.Given as goal

abbrev pub invariant-pieces : goal.invariant-pieces
invariant-pieces g l = record {
  within : l.scanned ≤ length l.self;
  lacks : Lacks 10 (take l.scanned l.self);
  whole : before l.fn.self (g.S.Source.left l.fn.source) ≡ before l.self (g.S.Source.left l.source);
  grew : length l.fn.self ≤ length l.self;
  quiet : g.S.Source.faults l.source ≡ g.S.Source.faults l.fn.source;
  short : (l.self ≡ l.fn.self) ⊎ (BeginsLong l.fn.self → ⊥);
  ahead : length l.fn.self ≤ ahead_limit → length l.self ≤ ahead_limit;
}

abbrev pub decreases-pieces : goal.decreases-pieces
decreases-pieces g l = line_limit + 1 - length l.self
