use Rattle.std.proofs.Common.{◌≡◌, ◌++◌, take}
use Rattle.std.specs.List.{flat_map}
use Rattle.as4_envelope.specs.Tree.{attribute_text}
use Rattle.as4_envelope.proofs.write.push_attributes.Given as goal

-- the attributes so far are written
abbrev pub invariant-loop-attribute : goal.invariant-loop-attribute
invariant-loop-attribute l = l.out.items ≡ l.initial.out.items ++ flat_map attribute_text (take l.attribute-index l.attributes)
