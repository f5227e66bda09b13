use Rattle.std.proofs.Common.{◌≡◌, length, take}
use Rattle.as4_envelope.proofs.copies.+sameness.Given as goal

-- the elements so far are equal
abbrev pub invariant-are_same-loop-one : goal.invariant-are_same-loop-one
invariant-are_same-loop-one l = take (length l.yielded) l.ones ≡ take (length l.yielded) l.others
