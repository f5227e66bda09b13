use Rattle.std.proofs.Common.{◌≡◌, ◌++◌, take}
use Rattle.std.specs.List.{flat_map}
use Rattle.as4_envelope.specs.Tree.{child_text}
use Rattle.as4_envelope.proofs.write.+tree.Given as goal

-- the children so far are written
abbrev pub invariant-push_children-loop-child : goal.invariant-push_children-loop-child
invariant-push_children-loop-child l = l.out.items ≡ l.initial.out.items ++ flat_map child_text (take l.child-index l.children)
