use Rattle.std.proofs.Common.{◌≡◌, map, take}
use Rattle.xml_items.specs.Raw.{written_of}
use Rattle.tree_reader.specs.Apart.{parts_of}
use Rattle.tree_reader.proofs.ApartLemmas.{written_parts}
use Rattle.tree_reader.proofs.apart.written_differ.Given as goal

-- the names so far
abbrev pub invariant-loop-attribute : goal.invariant-loop-attribute
invariant-loop-attribute l = map parts_of l.names.items ≡ map written_parts (map written_of (take l.attribute-index l.attributes))
