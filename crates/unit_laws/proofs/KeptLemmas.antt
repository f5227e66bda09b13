-- Attributes, elements and lists of elements that are kept by their text.
use Rattle.std.proofs.Common.{◌≡◌, ℕ, suc, ◌-◌, ◌≤◌, List, [], ◌∷◌, ◌++◌, Bool, true, false, not, ◌&&◌, inl, inr, nat_le, Option, Some, None, arith, refl, sym, ap, ◌∙◌, append-nil, map}
use Rattle.std.specs.Prelude.{IfSome, bytes_eq}
use Rattle.std.specs.List.{list_all, list_any, AllByRecursion}
use Rattle.std.proofs.Math.Bool.{and-false}
use Rattle.std.proofs.lemmas.Bool.{and_parts, not-true, or_right, and_from, cases_Bool, false≢true, le-leb}
use Rattle.std.proofs.lemmas.List.Folds.{list_all-append, list_any-append, list_all-map}
use Rattle.std.proofs.lemmas.Slice.Eq.{bytes_eq-Decides}
use Rattle.as4_envelope.specs.Tree.{ebms}
use Rattle.as4_envelope.specs.Writable.{has_prefix, is_attribute, same_name, names_differ, fits, fits_step}
use Rattle.as4_envelope.specs.declared.tree.Attribute.{Attribute}
use Rattle.as4_envelope.specs.declared.tree.Element.{Element}
use Rattle.as4_envelope.specs.declared.tree.Element.TheFolds.{fold-roll-Element}
use Rattle.as4_values.specs.Texts.{is_xml}
use Rattle.message_model.specs.UnitTree.{node, parent, leaf, plain_attribute, optional_attributes, optional_leaves, listed_in}
use Rattle.tree_reader.specs.Readable.{is_name, is_named_attribute, has_names, has_names_step}
use Rattle.unit_laws.specs.Kept.{IsXmlText, IsKept}
use Rattle.unit_laws.proofs.XmlLemmas.{is_plain_name, plain_name, graphic_is_xml}

-- attributes

-- the attributes of an element can be written, and are read back
pub record AttributesKept (attributes : List Attribute) : Type 0 where
  pub sound : list_all is_attribute attributes ≡ true
  pub differ : names_differ attributes ≡ true
  pub named : list_all is_named_attribute attributes ≡ true

pub no_attributes : AttributesKept []
no_attributes = record { sound = refl; differ = refl; named = refl }

-- each attribute has one of these names
abbrev Among : List (List ℕ) → List Attribute → Type 0
Among names attributes = list_all (λ a. list_any (bytes_eq a.local) names) attributes ≡ true

-- also with more names
among_more : (names : List (List ℕ)) (name : List ℕ) (attributes : List Attribute) → Among names attributes → Among (name ∷ names) attributes
among_more names name [] is = refl
among_more names name (a ∷ attributes) is =
    let parts = and_parts (list_any (bytes_eq a.local) names) _ is in
    and_from _ _ (or_right (bytes_eq a.local name) (list_any (bytes_eq a.local) names) parts.0) (among_more names name attributes parts.1)

-- bytes equal themselves
same_bytes : (bytes : List ℕ) → bytes_eq bytes bytes ≡ true
same_bytes bytes = (bytes_eq-Decides bytes bytes).1 refl

-- with one more attribute, and its name
one_among : (names : List (List ℕ)) (front : List Attribute) (name : List ℕ) (value : Option (List ℕ)) → Among names front
    → Among (name ∷ names) (front ++ optional_attributes name value)
unfolding optional_attributes
one_among names front name None among = rw (append-nil front) (among_more names name front among)
one_among names front name (Some value) among =
    list_all-append (λ a. list_any (bytes_eq a.local) (name ∷ names)) front (plain_attribute name value ∷ [])
    ∙ rw (among_more names name front among, same_bytes name) refl

-- a name that isn't among others differs from each of them
other_name : (names : List (List ℕ)) (name local : List ℕ) → list_any (bytes_eq local) names ≡ true → list_any (bytes_eq name) names ≡ false → bytes_eq local name ≡ false
other_name names name local among fresh =
    elim (cases_Bool (bytes_eq local name)) [
      | inl same ↦ let one : local ≡ name = (bytes_eq-Decides local name).0 same in absurd (false≢true (sym fresh ∙ (rw one at among)))
      | inr other ↦ other
    ]

-- an attribute with a new name differs from those before
one_differs : (names : List (List ℕ)) (name value : List ℕ) (attributes : List Attribute) → Among names attributes → names_differ attributes ≡ true
    → list_any (bytes_eq name) names ≡ false → names_differ (attributes ++ plain_attribute name value ∷ []) ≡ true
one_differs names name value [] among differ fresh = refl
one_differs names name value (a ∷ attributes) among differ fresh =
    let those = and_parts (list_any (bytes_eq a.local) names) _ among in
    let parts = and_parts (not (list_any (same_name a) attributes)) (names_differ attributes) differ in
    let none : list_any (same_name a) attributes ≡ false = not-true (list_any (same_name a) attributes) parts.0 in
    let apart : same_name a (plain_attribute name value) ≡ false =
    rw (other_name names name a.local those.0 fresh) (and-false (bytes_eq a.space [])) in
    rw (list_any-append (same_name a) attributes (plain_attribute name value ∷ []), none, apart) (one_differs names name value attributes those.1 parts.1 fresh)

-- one more attribute with a new name, or none
one_kept : (names : List (List ℕ)) (front : List Attribute) (name : List ℕ) (value : Option (List ℕ)) → Among names front → AttributesKept front
    → is_plain_name name ≡ true → list_any (bytes_eq name) names ≡ false → IfSome value IsXmlText → AttributesKept (front ++ optional_attributes name value)
unfolding optional_attributes is_attribute is_named_attribute
one_kept names front name None among kept plain fresh is = rw (append-nil front) kept
one_kept names front name (Some value) among kept plain fresh is =
    let good = plain_name name plain in
    record {
      sound = list_all-append is_attribute front (plain_attribute name value ∷ []) ∙ rw (kept.sound, is) refl;
      differ = one_differs names name value front among kept.differ fresh;
      named = list_all-append is_named_attribute front (plain_attribute name value ∷ []) ∙ rw (kept.named, good.is, good.bound) refl;
    }

-- attributes in no namespace with these names and values, after others
abbrev pub given : List Attribute → List (List ℕ × Option (List ℕ)) → List Attribute
given front [] = front
given front (one ∷ others) = given (front ++ optional_attributes one.0 one.1) others

-- names of attributes, none of which occurs twice or is among those before
abbrev pub are_new : List (List ℕ) → List (List ℕ × Option (List ℕ)) → Bool
are_new names [] = true
are_new names (one ∷ others) = (is_plain_name one.0 && not (list_any (bytes_eq one.0) names)) && are_new (one.0 ∷ names) others

-- attributes with new names, after others
given_kept : (names : List (List ℕ)) (front : List Attribute) (them : List (List ℕ × Option (List ℕ))) → Among names front → AttributesKept front
    → are_new names them ≡ true → AllByRecursion (λ one. IfSome one.1 IsXmlText) them → AttributesKept (given front them)
given_kept names front [] among kept new each = kept
given_kept names front (one ∷ others) among kept new each =
    let parts = and_parts (is_plain_name one.0 && not (list_any (bytes_eq one.0) names)) _ new in
    let name = and_parts (is_plain_name one.0) _ parts.0 in
    let more = one_kept names front one.0 one.1 among kept name.0 (not-true (list_any (bytes_eq one.0) names) name.1) each.0 in
    given_kept (one.0 ∷ names) (front ++ optional_attributes one.0 one.1) others (one_among names front one.0 one.1 among) more parts.1 each.1

-- all attributes of an element
pub attributes_kept : (them : List (List ℕ × Option (List ℕ))) → are_new [] them ≡ true → AllByRecursion (λ one. IfSome one.1 IsXmlText) them → AttributesKept (given [] them)
attributes_kept them new each = given_kept [] [] them refl no_attributes new each

-- elements

-- whether an element can be written, from its parts
fits_node : (space local text : List ℕ) (attributes : List Attribute) (within : List Element) (levels : ℕ) → fits (node space local attributes text within) levels
    ≡ (nat_le 1 levels && (has_prefix space && is_xml text && list_all is_attribute attributes && names_differ attributes)
    && list_all (λ child. fits child (levels - 1)) within)
unfolding fits
fits_node space local text attributes within levels =
    ap (λ f. f levels) (fold-roll-Element (ℕ → Bool) fits_step (record { space = space; local = local; attributes = attributes; text = text; children = within }))
    ∙ ap (λ b. nat_le 1 levels && (has_prefix space && is_xml text && list_all is_attribute attributes && names_differ attributes) && b)
    (list_all-map (λ child. child (levels - 1)) fits within)

-- whether the local names in an element are names, from its parts
names_node : (space local text : List ℕ) (attributes : List Attribute) (within : List Element) → has_names (node space local attributes text within)
    ≡ (is_name local && list_all is_named_attribute attributes && list_all has_names within)
unfolding has_names
names_node space local text attributes within =
    fold-roll-Element Bool has_names_step (record { space = space; local = local; attributes = attributes; text = text; children = within })
    ∙ ap (λ b. is_name local && list_all is_named_attribute attributes && b) (list_all-map (λ child. child) has_names within)

-- kept elements can be written
all_fit : (deep : ℕ) (within : List Element) → AllByRecursion (IsKept deep) within → (levels : ℕ) → deep ≤ levels → list_all (λ child. fits child levels) within ≡ true
unfolding IsKept
all_fit deep [] each levels enough = refl
all_fit deep (e ∷ within) each levels enough = and_from _ _ (each.0.0 levels enough) (all_fit deep within each.1 levels enough)

-- and have names
all_named : (deep : ℕ) (within : List Element) → AllByRecursion (IsKept deep) within → list_all has_names within ≡ true
unfolding IsKept
all_named deep [] each = refl
all_named deep (e ∷ within) each = and_from _ _ each.0.1 (all_named deep within each.1)

-- an element, from its parts
pub node_kept : (deep : ℕ) (space local text : List ℕ) (attributes : List Attribute) (within : List Element) → has_prefix space ≡ true → is_plain_name local ≡ true
    → AttributesKept attributes → IsXmlText text → AllByRecursion (IsKept deep) within → IsKept (suc deep) (node space local attributes text within)
unfolding IsKept
node_kept deep space local text attributes within prefixed plain kept spelled each = (
  λ levels enough.
      let some : nat_le 1 levels ≡ true = le-leb 1 levels (omega arith) in
      let fit : list_all (λ child. fits child (levels - 1)) within ≡ true = all_fit deep within each (levels - 1) (omega arith) in
      fits_node space local text attributes within levels ∙ rw (some, prefixed, spelled, kept.sound, kept.differ, fit) refl,
  names_node space local text attributes within ∙ rw ((plain_name local plain).is, kept.named, all_named deep within each) refl,
)

-- the namespace of ebMS has a prefix
ebms_prefix : has_prefix ebms ≡ true
unfolding has_prefix
ebms_prefix = refl

-- an element of ebMS that holds elements, and one that holds a text
pub parent_kept : (deep : ℕ) (local : List ℕ) (attributes : List Attribute) (within : List Element) → is_plain_name local ≡ true → AttributesKept attributes
    → AllByRecursion (IsKept deep) within → IsKept (suc deep) (parent local attributes within)
parent_kept deep local attributes within plain kept each = node_kept deep ebms local [] attributes within ebms_prefix plain kept (graphic_is_xml [] refl) each

pub leaf_kept : (deep : ℕ) (local : List ℕ) (attributes : List Attribute) (text : List ℕ) → is_plain_name local ≡ true → AttributesKept attributes → IsXmlText text
    → IsKept (suc deep) (leaf local attributes text)
leaf_kept deep local attributes text plain kept spelled = node_kept deep ebms local text attributes [] ebms_prefix plain kept spelled tt

-- lists of elements

-- also with more levels left
pub deeper : (deep more : ℕ) (tree : Element) → deep ≤ more → IsKept deep tree → IsKept more tree
unfolding IsKept
deeper deep more tree within is = (λ levels enough. is.0 levels (omega arith), is.1)

pub all_deeper : (deep more : ℕ) (trees : List Element) → deep ≤ more → AllByRecursion (IsKept deep) trees → AllByRecursion (IsKept more) trees
all_deeper deep more [] within each = each
all_deeper deep more (e ∷ trees) within each = (deeper deep more e within each.0, all_deeper deep more trees within each.1)

-- one list after another
pub behind_kept : (deep : ℕ) (front back : List Element) → AllByRecursion (IsKept deep) front → AllByRecursion (IsKept deep) back
    → AllByRecursion (IsKept deep) (front ++ back)
behind_kept deep [] back one other = other
behind_kept deep (e ∷ front) back one other = (one.0, behind_kept deep front back one.1 other)

-- the elements of all items
pub each_kept : {X : Type 0} (deep : ℕ) (tree : X → Element) (xs : List X) → AllByRecursion (λ x. IsKept deep (tree x)) xs → AllByRecursion (IsKept deep) (map tree xs)
each_kept deep tree [] each = each
each_kept deep tree (x ∷ xs) each = (each.0, each_kept deep tree xs each.1)

-- an element that holds them, or nothing if there are none
pub listed_kept : {X : Type 0} (deep : ℕ) (local : List ℕ) (tree : X → Element) (xs : List X) → is_plain_name local ≡ true
    → AllByRecursion (λ x. IsKept deep (tree x)) xs → AllByRecursion (IsKept (suc deep)) (listed_in local tree xs)
unfolding listed_in
listed_kept deep local tree [] plain each = each
listed_kept deep local tree (x ∷ xs) plain each = (parent_kept deep local [] (map tree (x ∷ xs)) plain no_attributes (each_kept deep tree (x ∷ xs) each), tt)

-- the element of an optional text
pub leaves_kept : (deep : ℕ) (local : List ℕ) (text : Option (List ℕ)) → is_plain_name local ≡ true → IfSome text IsXmlText
    → AllByRecursion (IsKept (suc deep)) (optional_leaves local text)
unfolding optional_leaves
leaves_kept deep local None plain is = tt
leaves_kept deep local (Some text) plain is = (leaf_kept deep local [] text plain no_attributes is, tt)
