-- The laws of an item: cutting and writing are inverse.
use Rattle.std.proofs.Common.{◌≡◌, ℕ, ◌<◌, List, ◌++◌, length, Option, Some, ap, sym, ◌∙◌, arith, length-append}
use Rattle.std.specs.Prelude.{◌↔◌}
use Rattle.std.proofs.lemmas.Option.{some_pair_parts}
use Rattle.xml_items.specs.Items.{Item}
use Rattle.xml_items.specs.Cutting.{item_at}
use Rattle.xml_items.specs.Grammar.{WrittenItem, xml_declaration, remark, start_tag, end_tag, text, print_item, IsItem, meaning, BeginsItem}
use Rattle.xml_items.proofs.TakenLemmas.{item_taken}
use Rattle.xml_items.proofs.AgainLemmas.{item_cut_again}

-- an item that is cut was written there
pub item_takes : (bytes : List ℕ) (x : Item × List ℕ) → item_at bytes ≡ Some x → (w : WrittenItem) × IsItem w x.1 × (meaning w ≡ x.0) × (bytes ≡ print_item w ++ x.1)
item_takes bytes x cut = item_taken bytes x cut

-- a written item is cut again, whatever follows it
pub item_again : (w : WrittenItem) (rest : List ℕ) → IsItem w rest → item_at (print_item w ++ rest) ≡ Some (meaning w, rest)
item_again w rest is = item_cut_again w rest is

-- an item has at least one byte
pub length-print_item : (w : WrittenItem) (rest : List ℕ) → IsItem w rest → 0 < length (print_item w)
unfolding IsItem print_item
length-print_item (xml_declaration parts blanks) rest is = omega arith
length-print_item (remark bytes) rest is = omega arith
length-print_item (start_tag t) rest is = omega arith
length-print_item (end_tag name blanks) rest is = omega arith
length-print_item (text bytes) rest is = omega (arith, is.0.some)

-- so cutting ends
pub item_shortens : (bytes : List ℕ) (x : Item × List ℕ) → item_at bytes ≡ Some x → length x.1 < length bytes
item_shortens bytes x cut =
    let taken = item_taken bytes x cut in
    omega (arith, length-print_item taken.0 x.1 taken.1, ap length taken.3, length-append (print_item taken.0) x.1)

-- an item is cut exactly if it is written there
pub item_is : (bytes : List ℕ) (item : Item) (rest : List ℕ) → (item_at bytes ≡ Some (item, rest)) ↔ BeginsItem bytes item rest
item_is bytes item rest = (item_taken bytes (item, rest), begun)
  where
    begun : BeginsItem bytes item rest → item_at bytes ≡ Some (item, rest)
    begun written = rw (written.3, ← written.2) (item_cut_again written.0 rest written.1)

pub item_unique : (bytes : List ℕ) (a b : Item) (p q : List ℕ) → BeginsItem bytes a p → BeginsItem bytes b q → (a ≡ b) × (p ≡ q)
item_unique bytes a b p q one other =
    let cut_one : ◌≡◌ {A = Option (Item × List ℕ)} (item_at bytes) (Some (a, p)) = (item_is bytes a p).1 one in
    let cut_other : ◌≡◌ {A = Option (Item × List ℕ)} (item_at bytes) (Some (b, q)) = (item_is bytes b q).1 other in
    same a b p q (sym cut_one ∙ cut_other)
  where
    same : (a b : Item) (p q : List ℕ) → ◌≡◌ {A = Option (Item × List ℕ)} (Some (a, p)) (Some (b, q)) → (a ≡ b) × (p ≡ q)
    same a b p q e = some_pair_parts a b p q e
