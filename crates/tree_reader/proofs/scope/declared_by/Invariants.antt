use Rattle.std.proofs.Common.{◌≡◌, map, drop}
use Rattle.xml_items.specs.Raw.{written_of}
use Rattle.tree_reader.specs.Steps.{with_front, gathered}
use Rattle.tree_reader.specs.Scopes.{declared_by}
use Rattle.tree_reader.specs.Declarations.{binding_of}
use Rattle.tree_reader.proofs.scope.declared_by.Given as goal

-- the declarations so far, followed by those of the remaining attributes
abbrev pub invariant-loop-attribute : goal.invariant-loop-attribute
invariant-loop-attribute l = gathered declared_by (map written_of l.attributes)
    ≡ with_front (map binding_of l.declared.items) (gathered declared_by (map written_of (drop l.attribute-index l.attributes)))
