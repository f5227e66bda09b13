use Rattle.std.proofs.Common.{◌≡◌, map, drop}
use Rattle.xml_items.specs.Raw.{written_of}
use Rattle.tree_reader.specs.Steps.{with_front, gathered}
use Rattle.tree_reader.specs.Scopes.{attribute_by}
use Rattle.tree_reader.specs.Views.{scope_in}
use Rattle.tree_reader.proofs.scope.attributes_by.Given as goal

-- the attributes so far, followed by the remaining ones
abbrev pub invariant-loop-attribute : goal.invariant-loop-attribute
invariant-loop-attribute l = gathered (attribute_by (scope_in l.scope)) (map written_of l.attributes)
    ≡ with_front l.pairs.items (gathered (attribute_by (scope_in l.scope)) (map written_of (drop l.attribute-index l.attributes)))
