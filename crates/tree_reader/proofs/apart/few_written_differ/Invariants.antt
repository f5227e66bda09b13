use Rattle.std.proofs.Common.{◌≡◌, map, drop}
use Rattle.xml_items.specs.Raw.{written_of}
use Rattle.tree_reader.specs.Scopes.{written_differ}
use Rattle.tree_reader.proofs.apart.few_written_differ.Given as goal

-- the result depends only on the remaining attributes
abbrev pub invariant-loop-at : goal.invariant-loop-at
invariant-loop-at l = written_differ (map written_of l.attributes) ≡ written_differ (map written_of (drop l.at l.attributes))
