use Rattle.std.proofs.Common.{◌≡◌, length, take}
use Rattle.as4_values.proofs.lists.SeqPlainData.same.Given as goal

-- the two agree so far
abbrev pub invariant-loop-item : goal.invariant-loop-item
invariant-loop-item g l = take (length l.yielded) l.self ≡ take (length l.yielded) l.other
