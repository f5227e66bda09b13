-- Bytes are a document of at most one tree, and have at most one place.
use Rattle.std.proofs.Common.{◌≡◌, ℕ, List, [], ◌∷◌, ◌++◌, map, length, refl, sym, ap, subst, ◌∙◌, append_assoc, arith}
use Rattle.as4_envelope.specs.declared.tree.Element.{Element}
use Rattle.xml_items.specs.Items.{Item}
use Rattle.xml_items.specs.Grammar.{WrittenItem, meaning}
use Rattle.tree_reader.specs.Reading.{done}
use Rattle.tree_reader.specs.Trees.{Spells, Begins}
use Rattle.tree_reader.specs.Documents.{Cuts, IsDocument, IsPlace, levels, behind_mark}
use Rattle.tree_reader.specs.Halts.{Reached}
use Rattle.tree_reader.proofs.SpellLemmas.{spells_runs}
use Rattle.tree_reader.proofs.CutLemmas.{cut_item, pair_is}
use Rattle.tree_reader.proofs.HaltLemmas as halts

-- trees

document_reached : (bytes : List ℕ) (tree : Element) → IsDocument bytes tree → Reached (behind_mark bytes) (done tree) []
document_reached bytes tree document = record { items = document.items; cut = document.cut; runs = spells_runs levels (map meaning document.items) tree document.spelled }

pub one_tree : (bytes : List ℕ) (one other : Element) → IsDocument bytes one → IsDocument bytes other → one ≡ other
one_tree bytes one other first second = halts.one_tree bytes one other (document_reached bytes one first) second

-- places

-- of two item prefixes of the same bytes, one extends the other
pub data Nested (r q : List ℕ) (xs ys : List WrittenItem) : Type 0 where
  goes_on : (more : List WrittenItem) → Cuts r more q → map meaning ys ≡ map meaning xs ++ map meaning more → Nested r q xs ys
  comes_first : (more : List WrittenItem) → Cuts q more r → map meaning xs ≡ map meaning ys ++ map meaning more → Nested r q xs ys

Cuts-from : (a b rest : List ℕ) (items : List WrittenItem) → a ≡ b → Cuts a items rest → Cuts b items rest
Cuts-from a b rest items e cut = subst (λ (c : List ℕ). Cuts c items rest) e cut

one_more : (r q : List ℕ) (x y : WrittenItem) (xs ys : List WrittenItem) → meaning x ≡ meaning y → Nested r q xs ys → Nested r q (x ∷ xs) (y ∷ ys)
one_more r q x y xs ys same (goes_on more cut whole) =
    goes_on more cut (ap (λ (i : Item). i ∷ map meaning ys) (sym same) ∙ ap (λ (l : List Item). meaning x ∷ l) whole)
one_more r q x y xs ys same (comes_first more cut whole) =
    comes_first more cut (ap (λ (i : Item). i ∷ map meaning xs) same ∙ ap (λ (l : List Item). meaning y ∷ l) whole)

nested : (bytes r q : List ℕ) (xs ys : List WrittenItem) → Cuts bytes xs r → Cuts bytes ys q → Nested r q xs ys
nested bytes r q [] ys one other = goes_on ys (Cuts-from bytes r q ys one other) refl
nested bytes r q (x ∷ xs) [] one other = comes_first (x ∷ xs) (Cuts-from bytes q r (x ∷ xs) other one) refl
nested bytes r q (x ∷ xs) (y ∷ ys) one other =
    let same = pair_is (meaning x) (meaning y) one.0 other.0 (sym (cut_item bytes one.0 x one.1 one.2) ∙ cut_item bytes other.0 y other.1 other.2) in
    one_more r q x y xs ys same.0 (nested one.0 r q xs ys one.3 (Cuts-from other.0 one.0 q ys (sym same.1) other.3))

regrouped : (front whole : List Item) (item : Item) (more last : List Item) → whole ≡ front ++ (item ∷ more) → whole ++ last ≡ (front ++ item ∷ []) ++ (more ++ last)
regrouped front whole item more last is =
    ap (λ (l : List Item). l ++ last) is ∙ (append_assoc front (item ∷ more) last ∙ sym (append_assoc front (item ∷ []) (more ++ last)))

-- if items begin a document, so does each nonempty prefix of them
begins_before : (most : ℕ) (front whole : List Item) (item : Item) (more : List Item) → whole ≡ front ++ (item ∷ more) → Begins most whole → Begins most (front ++ item ∷ [])
begins_before most front whole item more is begins =
    (more ++ begins.0, begins.1, subst (λ (items : List Item). Spells most items begins.1) (regrouped front whole item more begins.0 is) begins.2)

ends_here : (most : ℕ) (bytes : List ℕ) (a b : ℕ) (one : IsPlace most bytes a) (other : IsPlace most bytes b) (more : List WrittenItem) → Cuts one.rest more other.rest
    → map meaning other.items ≡ map meaning one.items ++ map meaning more → a ≡ b
ends_here most bytes a b one other [] cut whole = omega (arith, one.here, other.here, ap length cut)
ends_here most bytes a b one other (item ∷ more) cut whole =
    absurd (one.longest item cut.0 cut.1 cut.2 (begins_before most (map meaning one.items) (map meaning other.items) (meaning item) (map meaning more) whole other.begins))

by_nested : (most : ℕ) (bytes : List ℕ) (a b : ℕ) (one : IsPlace most bytes a) (other : IsPlace most bytes b) → Nested one.rest other.rest one.items other.items → a ≡ b
by_nested most bytes a b one other (goes_on more cut whole) = ends_here most bytes a b one other more cut whole
by_nested most bytes a b one other (comes_first more cut whole) = sym (ends_here most bytes b a other one more cut whole)

pub one_place : (most : ℕ) (bytes : List ℕ) (a b : ℕ) → IsPlace most bytes a → IsPlace most bytes b → a ≡ b
one_place most bytes a b one other = by_nested most bytes a b one other (nested (behind_mark bytes) one.rest other.rest one.items other.items one.cut other.cut)
