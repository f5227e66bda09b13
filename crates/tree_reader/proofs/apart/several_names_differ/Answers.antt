use Rattle.std.proofs.Common.{List, map, ap, ◌∙◌}
use Rattle.tree_reader.specs.Apart.{differ, same_parts, parts_of}
use Rattle.tree_reader.proofs.ApartLemmas.{Parts, names_told}
use Rattle.tree_reader.proofs.apart.several_names_differ.Goals as goal

pub returns : goal.returns
returns c =
    names_told c.all_differ.result c.loop-attribute.names.items c.args.attributes.now c.loop-attribute.attribute-index c.loop-attribute-test.false
    (c.all_differ.ensures ∙ ap (λ (names : List Parts). differ same_parts (map parts_of names)) c.as_mut_slice.ensures.value) c.loop-attribute.invariant
