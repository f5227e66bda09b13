use Rattle.std.proofs.Common.{◌≡◌, take}
use Rattle.as4_envelope.proofs.copies.+copies.Given as goal

-- the elements so far are copied
abbrev pub invariant-copies_of-loop-element : goal.invariant-copies_of-loop-element
invariant-copies_of-loop-element l = l.copies.items ≡ take l.element-index l.elements
