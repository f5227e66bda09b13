use Rattle.std.proofs.Common.{take}
use Rattle.byte_forms.specs.Forms.{Each}
use Rattle.event_code.proofs.spelled.show_all.Given as goal

-- the same for those so far
abbrev pub invariant-loop-item : goal.invariant-loop-item
invariant-loop-item g l = Each g.T.Spelled.is_spelled (take l.item-index l.items)
