use Rattle.std.proofs.Common.{take}
use Rattle.std.specs.List.{AllByRecursion}
use Rattle.unit_laws.proofs.again.show_all.Given as goal

-- the items so far are read back, and kept
abbrev pub invariant-loop-item : goal.invariant-loop-item
invariant-loop-item g l = AllByRecursion g.T.Again.again (take l.item-index l.items) × AllByRecursion g.T.Again.kept (take l.item-index l.items)
