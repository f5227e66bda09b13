use Rattle.std.proofs.Common.{◌≡◌, drop}
use Rattle.auditor.specs.Lines.{received_in}
use Rattle.auditor.proofs.lines.count_changes.Given as goal

-- the number after the changes that are left is that after all
abbrev pub invariant-loop-effect : goal.invariant-loop-effect
invariant-loop-effect l = received_in l.received (drop l.effect-index l.effects) ≡ received_in l.fn.received l.effects
