use Rattle.std.proofs.Common.{◌≡◌, take}
use Rattle.as4_values.proofs.lists.SeqPlainData.try_clone.Given as goal

-- the copies so far are the items so far
abbrev pub invariant-loop-item : goal.invariant-loop-item
invariant-loop-item g l = l.copies.items ≡ take l.item-index l.item-items
