use Rattle.std.proofs.Common.{◌≡◌, ◌++◌, drop}
use Rattle.auditor.specs.Lines.{lines_of, received_in}
use Rattle.auditor.proofs.lines.add_changes.Given as goal

-- the lines so far and those of the changes that are left, and the number after these, are those of all
abbrev pub invariant-loop-effect : goal.invariant-loop-effect
invariant-loop-effect l = record {
  text : l.out.items ++ lines_of l.received (drop l.effect-index l.effects) ≡ l.fn.out.items ++ lines_of l.fn.received l.effects;
  count : received_in l.received (drop l.effect-index l.effects) ≡ received_in l.fn.received l.effects;
}
