use Rattle.std.proofs.Common.{◌≡◌, true, take}
use Rattle.std.specs.List.{list_all}
use Rattle.as4_envelope.specs.Writable.{fits}
use Rattle.as4_envelope.proofs.writable.+levels.Given as goal

-- the children so far fit
abbrev pub invariant-all_fit-loop-child : goal.invariant-all_fit-loop-child
invariant-all_fit-loop-child l = list_all (λ child. fits child l.levels) (take l.child-index l.children) ≡ true
