use Rattle.std.proofs.Common.{◌≡◌, map, drop}
use Rattle.std.specs.List.{list_any}
use Rattle.xml_items.specs.Raw.{written_of}
use Rattle.tree_reader.specs.Scopes.{same_written}
use Rattle.tree_reader.proofs.apart.is_written.Given as goal

-- the result depends only on the remaining attributes
abbrev pub invariant-loop-attribute : goal.invariant-loop-attribute
invariant-loop-attribute l = list_any (same_written (written_of l.like)) (map written_of l.attributes)
    ≡ list_any (same_written (written_of l.like)) (map written_of (drop l.attribute-index l.attributes))
