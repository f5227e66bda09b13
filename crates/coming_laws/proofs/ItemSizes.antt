-- The texts and values of items are parts of the items' bytes.
use Rattle.std.proofs.Common.{ℕ, ◌≤◌, List, [], ◌∷◌, ◌++◌, length, length-append, map, arith, ap}
use Rattle.std.specs.List.{sum_by, flat_map}
use Rattle.std.proofs.lemmas.List.Sums.{sum_by-cons}
use Rattle.xml_items.specs.Items.{Written, Item, declaration, comment, start, finish, run}
use Rattle.xml_items.specs.Grammar.{WrittenAttribute, WrittenItem, xml_declaration, remark, start_tag, end_tag, text, written, print_attribute, print_tag_end, print_item, meaning}
use Rattle.tree_reader.specs.Documents.{Cuts}

abbrev pub written_size : Written → ℕ
written_size a = length a.value

-- the bytes of an item's text and of its attributes' values
abbrev pub weight : Item → ℕ
weight declaration = 0
weight (comment bytes) = 0
weight (start tag) = sum_by written_size tag.attributes
weight (finish name) = 0
weight (run bytes) = length bytes

attribute_weight : (a : WrittenAttribute) → length a.value ≤ length (print_attribute a)
unfolding print_attribute
attribute_weight a = simp length-append (omega arith)

attributes_weight : (attributes : List WrittenAttribute) → sum_by written_size (map written attributes) ≤ length (flat_map print_attribute attributes)
attributes_weight [] = omega arith
attributes_weight (a ∷ attributes) =
    omega (
      arith,
      sum_by-cons written_size (written a) (map written attributes),
      length-append (print_attribute a) (flat_map print_attribute attributes),
      attribute_weight a,
      attributes_weight attributes,
    )

item_weight : (item : WrittenItem) → weight (meaning item) ≤ length (print_item item)
unfolding print_item meaning
item_weight (xml_declaration parts blanks) = omega arith
item_weight (remark bytes) = omega arith
item_weight (start_tag t) =
    omega (
      arith,
      attributes_weight t.attributes,
      length-append t.name (flat_map print_attribute t.attributes ++ (t.blanks ++ print_tag_end t.closed)),
      length-append (flat_map print_attribute t.attributes) (t.blanks ++ print_tag_end t.closed),
    )
item_weight (end_tag name blanks) = omega arith
item_weight (text bytes) = omega arith

pub items_weight : (bytes : List ℕ) (items : List WrittenItem) (rest : List ℕ) → Cuts bytes items rest → sum_by weight (map meaning items) ≤ length bytes
items_weight bytes [] rest cut = omega arith
items_weight bytes (item ∷ items) rest cut =
    omega (
      arith,
      sum_by-cons weight (meaning item) (map meaning items),
      item_weight item,
      items_weight cut.0 items rest cut.3,
      ap (λ (l : List ℕ). length l) cut.2,
      length-append (print_item item) cut.0,
    )
