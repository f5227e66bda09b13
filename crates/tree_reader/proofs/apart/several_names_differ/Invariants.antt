use Rattle.std.proofs.Common.{◌≡◌, map, take}
use Rattle.tree_reader.specs.Apart.{parts_of}
use Rattle.tree_reader.proofs.ApartLemmas.{name_parts}
use Rattle.tree_reader.proofs.apart.several_names_differ.Given as goal

-- the names so far
abbrev pub invariant-loop-attribute : goal.invariant-loop-attribute
invariant-loop-attribute l = map parts_of l.names.items ≡ map name_parts (take l.attribute-index l.attributes)
