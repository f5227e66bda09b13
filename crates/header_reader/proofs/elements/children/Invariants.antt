use Rattle.std.proofs.Common.{◌≡◌, drop}
use Rattle.header_reader.specs.Elements.{named, each}
use Rattle.header_reader.proofs.ElementLemmas.{behind}
use Rattle.header_reader.proofs.elements.children.Given as goal

-- the children read so far, followed by those still to be read
abbrev pub invariant-loop-child : goal.invariant-loop-child
invariant-loop-child g l =
    behind l.items.items (each g.T.Readable.meaning (named l.name (drop l.child-index l.child-items)))
    ≡ each g.T.Readable.meaning (named l.name l.child-items)
