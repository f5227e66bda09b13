use Rattle.std.proofs.Common.{◌≡◌, take}
use Rattle.std.specs.List.{flat_map}
use Rattle.as4_effects.specs.Lengths.{grown}
use Rattle.as4_effects.proofs.measured.SeqMeasured.add_len.Given as goal

-- the items so far are counted
abbrev pub invariant-loop-item : goal.invariant-loop-item
invariant-loop-item g l = l.total ≡ grown l.initial.total (flat_map g.T.Measured.body (take l.item-index l.item-items))
