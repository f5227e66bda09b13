use Rattle.xml_items.specs.Raw.{written_of}
use Rattle.tree_reader.specs.Scopes.{declared_by}
use Rattle.tree_reader.proofs.ScopeLemmas.{gathered_more}
use Rattle.tree_reader.proofs.scope.declared_by.Goals as goal

pub loop-attribute-preserved : goal.loop-attribute-preserved
loop-attribute-preserved c =
    gathered_more declared_by written_of c.args.attributes.now c.loop-attribute.attribute-index _ _ _ _ c.loop-attribute-test.true c.in_ok-push_declared.ensures c.loop-attribute.invariant
