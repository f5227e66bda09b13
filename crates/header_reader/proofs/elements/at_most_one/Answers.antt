use Rattle.std.proofs.Common.{◌≡◌, ◌<◌, true, length, get_or, arith, Bor}
use Rattle.as4_envelope.specs.declared.tree.Element.{Element}
use Rattle.std.specs.Prelude.{is_some}
use Rattle.header_reader.specs.Elements.{is_named}
use Rattle.header_reader.proofs.ElementLemmas.{found_again}
use Rattle.header_reader.proofs.elements.at_most_one.Goals as goal

-- a second one of the name
pub returns-then-is_some : goal.returns-then-is_some
returns-then-is_some c =
    let within : c.loop-child.child-index < length c.items-child-items.result.now = omega arith in
    let some : is_some c.loop-child.found ≡ true = cc in
    let is : is_named c.args.name (get_or c.items-child-items.result.now c.loop-child.child-index c.child-item.result) ≡ true = cc in
    cc (found_again (λ (e : Bor Element). e.now) c.args.name c.items-child-items.result.now c.loop-child.child-index c.child-item.result
    c.loop-child.found within c.loop-child.invariant some is)
