use Rattle.std.proofs.Common.{◌≡◌, ◌++◌, ◌∷◌, [], map, sym}
use Rattle.std.proofs.lemmas.List.{map_push}
use Rattle.xml_items.specs.Raw.{written_of}
use Rattle.xml_items.proofs.AttributeLemmas.{attribute_shortens, one_on}
use Rattle.xml_items.proofs.attributes.attributes_at.Goals as goal

pub attributes-smaller : goal.attributes-smaller
attributes-smaller c =
    attribute_shortens c.attributes.rest.now (written_of c.in-Some.attribute, c.in-Some.after.now) (sym c.in-Some.ensures)

pub attributes-preserved : goal.attributes-preserved
attributes-preserved c =
    let on = one_on c.args.bytes.now c.attributes.rest.now (map written_of c.attributes.attributes.items) (written_of c.in-Some.attribute, c.in-Some.after.now) (sym c.in-Some.ensures) c.attributes.invariant in
    let more : map written_of c.push.new.self.items ≡ map written_of c.attributes.attributes.items ++ written_of c.in-Some.attribute ∷ [] = rw c.in_ok-push.ensures.items (map_push written_of c.attributes.attributes.items c.in-Some.attribute) in
    rw more on
