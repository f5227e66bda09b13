-- Bytes are cut into items in one way only.
use Rattle.std.proofs.Common.{◌≡◌, ℕ, List, [], ◌∷◌, ◌++◌, map, Option, Some, refl, sym, ap, ◌∙◌, arith}
use Rattle.xml_items.specs.Items.{Item}
use Rattle.xml_items.specs.Cutting.{item_at}
use Rattle.xml_items.specs.Grammar.{WrittenItem, print_item, meaning, IsItem}
use Rattle.xml_items.proofs.ItemLaws.{item_again, item_shortens}
use Rattle.tree_reader.specs.Documents.{Cuts}

-- appends one item
pub Cuts-more : (bytes : List ℕ) (items : List WrittenItem) (rest behind : List ℕ) (item : WrittenItem) → Cuts bytes items rest → IsItem item behind → rest ≡ print_item item ++ behind
    → Cuts bytes (items ++ item ∷ []) behind
Cuts-more bytes [] rest behind item cut is split = (behind, is, cut ∙ split, refl)
Cuts-more bytes (first ∷ items) rest behind item cut is split =
    (cut.0, cut.1, cut.2, Cuts-more cut.0 items rest behind item cut.3 is split)

-- an item at the start of the bytes is the one that is cut there
pub cut_item : (bytes behind : List ℕ) (item : WrittenItem) → IsItem item behind → bytes ≡ print_item item ++ behind → item_at bytes ≡ Some (meaning item, behind)
cut_item bytes behind item is split = ap item_at split ∙ item_again item behind is

abbrev pub some_pair : {A B : Type 0} → A → B → Option (A × B)
some_pair x a = Some (x, a)

pub pair_is : (x y : Item) (a b : List ℕ) → some_pair x a ≡ some_pair y b → (x ≡ y) × (a ≡ b)
pair_is x y a b e =
    let same : ◌≡◌ {A = Item × List ℕ} (x, a) (y, b) = cc in
    (ap (λ (p : Item × List ℕ). p.0) same, ap (λ (p : Item × List ℕ). p.1) same)

-- nothing is cut from empty bytes
pub item_at_nil : (x : Item × List ℕ) → item_at [] ≡ Some x → ⊥
item_at_nil x e = omega (arith, item_shortens [] x e)

pub nil_has_none : (bytes behind : List ℕ) (item : WrittenItem) → bytes ≡ [] → IsItem item behind → bytes ≡ print_item item ++ behind → ⊥
nil_has_none bytes behind item nil is split = item_at_nil (meaning item, behind) (ap item_at (sym nil) ∙ cut_item bytes behind item is split)

-- the items after a prefix
pub record Beyond (rest : List ℕ) (items front : List WrittenItem) : Type 0 where
  pub more : List WrittenItem
  pub cut : Cuts rest more []
  pub whole : map meaning items ≡ map meaning front ++ map meaning more

Cuts-at : (a b : List ℕ) (items : List WrittenItem) → a ≡ b → Cuts a items [] → Cuts b items []
Cuts-at a b [] e cut = sym e ∙ cut
Cuts-at a b (item ∷ items) e cut = (cut.0, cut.1, sym e ∙ cut.2, cut.3)

pub beyond : (bytes rest : List ℕ) (front items : List WrittenItem) → Cuts bytes front rest → Cuts bytes items [] → Beyond rest items front
beyond bytes rest [] items cut all = record { more = items; cut = Cuts-at bytes rest items cut all; whole = refl }
beyond bytes rest (item ∷ front) [] cut all = absurd (nil_has_none bytes cut.0 item all cut.1 cut.2)
beyond bytes rest (item ∷ front) (other ∷ items) cut all =
    let one = pair_is (meaning other) (meaning item) all.0 cut.0 (sym (cut_item bytes all.0 other all.1 all.2) ∙ cut_item bytes cut.0 item cut.1 cut.2) in
    let rest_of = beyond cut.0 rest front items cut.3 (Cuts-at all.0 cut.0 items one.1 all.3) in
    record { more = rest_of.more; cut = rest_of.cut; whole = ap (λ (x : Item). x ∷ map meaning items) one.0 ∙ ap (λ (xs : List Item). meaning item ∷ xs) rest_of.whole }
