use Rattle.std.proofs.Common.{length, map}
use Rattle.xml_items.specs.Raw.{written_of}
use Rattle.xml_items.proofs.AttributeLemmas.{GoesOn}
use Rattle.xml_items.proofs.attributes.attributes_at.Given as goal

-- the attributes so far precede those of the rest
abbrev pub invariant-attributes : goal.invariant-attributes
invariant-attributes l = GoesOn l.bytes (map written_of l.attributes.items) l.rest

abbrev pub decreases-attributes : goal.decreases-attributes
decreases-attributes l = length l.rest
