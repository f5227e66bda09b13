-- Names and attributes of canonical text.
use Rattle.std.proofs.Common.{◌≡◌, inl, inr, ℕ, zero, suc, ◌<◌, Bool, true, false, not, ◌&&◌, ◌||◌, ◌==◌, cond, List, [], ◌∷◌, map, take, Option, Some, None, length, refl, sym, ap, ◌∙◌, append_assoc, arith}
use Rattle.std.proofs.lemmas.Bool.{and_parts, le-ltb, false_from_ne_true}
use Rattle.std.proofs.lemmas.Bool.Decides.{nat_tests}
use Rattle.std.proofs.lemmas.List.{nil_from_length}
use Rattle.std.proofs.lemmas.List.Sums.{AllPass-from_list_all}
use Rattle.std.proofs.lemmas.Slice.Eq.{bytes_eq-Decides}
use Rattle.std.proofs.lemmas.Str.{is_utf8-from_IsUtf8}
use Rattle.std.specs.Prelude.{codes, position}
use Rattle.std.specs.List.{position_or_len, list_all, list_any, AllByRecursion, AllPass}
use Rattle.std.specs.Char.{encode_utf8}
use Rattle.std.specs.Str.{bytes_eq, is_utf8}
use Rattle.as4_values.specs.Texts.{is_xml}
use Rattle.byte_forms.specs.Classes.{is_blank}
use Rattle.as4_envelope.specs.Markup.{escaped, attribute}
use Rattle.as4_envelope.specs.Tree.{soap, ebms, prefix_of, name_of}
use Rattle.as4_envelope.specs.Writable.{has_prefix, is_attribute, same_name, names_differ}
use Rattle.as4_envelope.specs.declared.tree.Attribute.{Attribute}
use Rattle.xml_items.specs.Classes.{is_name_byte}
use Rattle.xml_items.specs.Items.{Written}
use Rattle.xml_items.specs.Grammar.{WrittenAttribute, print_attribute, IsAttribute, IsSome, written}
use Rattle.tree_reader.specs.Steps.{gathered}
use Rattle.tree_reader.specs.Names.{Qualified, is_colon, is_local_name, parted, qualified}
use Rattle.tree_reader.specs.Scopes.{Binding, found, or_none, binds_default, binds_prefix, is_empty, declared_by, element_space, attribute_space, attribute_by, same_written, written_differ}
use Rattle.tree_reader.specs.Readable.{is_name, is_named_attribute}
use Rattle.tree_reader.proofs.TextLemmas.{told}
use Rattle.tree_reader.proofs.EscapedLemmas.{position_at, escaped_is_value, escaped_characters}

-- a namespace for which canonical text has a prefix, or none
pub data Placed (space : List ℕ) : Type 0 where
  in_soap : space ≡ soap → Placed space
  in_ebms : space ≡ ebms → Placed space
  nowhere : space ≡ [] → Placed space

pub same_bytes : (a b : List ℕ) → bytes_eq a b ≡ true → a ≡ b
same_bytes a b e = (bytes_eq-Decides a b).0 e

pub placed_by : (space : List ℕ) → has_prefix space ≡ true → Placed space
unfolding has_prefix
placed_by space is =
    elim (told (bytes_eq space soap)) as (λ _. Placed space) [
      | inl soap_it ↦ in_soap (same_bytes space soap soap_it)
      | inr other ↦ in_ebms (same_bytes space ebms (rw other at is))
    ]

-- the prefix without its colon, and back
abbrev pub bare : List ℕ → List ℕ
bare space = cond (bytes_eq space soap) (codes "S") (cond (bytes_eq space ebms) (codes "eb") [])

abbrev back : List ℕ → List ℕ
back prefix = cond (bytes_eq prefix (codes "S")) soap (cond (bytes_eq prefix (codes "eb")) ebms [])

bare_back : (space : List ℕ) → Placed space → back (bare space) ≡ space
bare_back space (in_soap e) = rw e refl
bare_back space (in_ebms e) = rw e refl
bare_back space (nowhere e) = rw e refl

name_soap : (local : List ℕ) → name_of soap local ≡ 83 ∷ 58 ∷ local
unfolding prefix_of
name_soap local = refl

name_ebms : (local : List ℕ) → name_of ebms local ≡ 101 ∷ 98 ∷ 58 ∷ local
unfolding prefix_of
name_ebms local = refl

name_nowhere : (local : List ℕ) → name_of [] local ≡ local
unfolding prefix_of
name_nowhere local = refl

-- names are cut at their colon

soap_utf8 : is_utf8 (83 ∷ []) ≡ true
unfolding encode_utf8
soap_utf8 = is_utf8-from_IsUtf8 (83 ∷ []) ((83 ∷ []), (refl, refl))

ebms_utf8 : is_utf8 (101 ∷ 98 ∷ []) ≡ true
unfolding encode_utf8
ebms_utf8 = is_utf8-from_IsUtf8 (101 ∷ 98 ∷ []) ((101 ∷ 98 ∷ []), (refl, refl))

pub soap_local : is_local_name (83 ∷ []) ≡ true
unfolding is_local_name
soap_local = rw soap_utf8 refl

pub ebms_local : is_local_name (101 ∷ 98 ∷ []) ≡ true
unfolding is_local_name
ebms_local = rw ebms_utf8 refl

pub not_false : (b : Bool) → not b ≡ true → b ≡ false
not_false true e = absurd cc
not_false false e = refl

no_colon : (local : List ℕ) → is_local_name local ≡ true → list_any is_colon local ≡ false
unfolding is_local_name
no_colon local is =
    let one = and_parts _ (is_utf8 local) is in
    not_false (list_any is_colon local) (and_parts _ (not (list_any is_colon local)) one.0).1

pub neither : (a b : Bool) → (a || b) ≡ false → (a ≡ false) × (b ≡ false)
neither true b e = absurd cc
neither false b e = (refl, e)

none_len : (p : ℕ → Bool) (xs : List ℕ) → list_any p xs ≡ false → position_or_len p xs ≡ length xs
none_len p [] none = refl
none_len p (x ∷ xs) none =
    let split = neither (p x) (list_any p xs) none in
    rw (split.0, none_len p xs split.1) (omega arith)

position_none : (p : ℕ → Bool) (xs : List ℕ) → list_any p xs ≡ false → position p xs ≡ None
position_none p xs none =
    let len = none_len p xs none in
    rw (len, le-ltb (length xs) (length xs) (omega arith)) refl

qualified_nowhere : (local : List ℕ) → is_local_name local ≡ true → qualified local ≡ Some (record { prefix = []; local = local })
unfolding qualified
qualified_nowhere local is = ap (parted local) (position_none is_colon local (no_colon local is)) ∙ rw is refl

qualified_soap : (local : List ℕ) → is_local_name local ≡ true → qualified (83 ∷ 58 ∷ local) ≡ Some (record { prefix = codes "S"; local = local })
unfolding qualified
qualified_soap local is =
    ap (parted (83 ∷ 58 ∷ local)) (position_at is_colon 1 (83 ∷ 58 ∷ local) (omega arith) refl) ∙ rw (soap_local, is) refl

qualified_ebms : (local : List ℕ) → is_local_name local ≡ true → qualified (101 ∷ 98 ∷ 58 ∷ local) ≡ Some (record { prefix = codes "eb"; local = local })
unfolding qualified
qualified_ebms local is =
    ap (parted (101 ∷ 98 ∷ 58 ∷ local)) (position_at is_colon 2 (101 ∷ 98 ∷ 58 ∷ local) (omega arith) refl) ∙ rw (ebms_local, is) refl

pub qualified_name : (space local : List ℕ) → Placed space → is_local_name local ≡ true → qualified (name_of space local) ≡ Some (record { prefix = bare space; local = local })
qualified_name space local (in_soap e) is = rw e (ap qualified (name_soap local) ∙ qualified_soap local is)
qualified_name space local (in_ebms e) is = rw e (ap qualified (name_ebms local) ∙ qualified_ebms local is)
qualified_name space local (nowhere e) is = rw e (ap qualified (name_nowhere local) ∙ qualified_nowhere local is)

qualified_is : (p l q m : List ℕ) → ◌≡◌ {A = Option Qualified} (Some (record { prefix = p; local = l })) (Some (record { prefix = q; local = m })) → (p ≡ q) × (l ≡ m)
qualified_is p l q m e =
    let same : ◌≡◌ {A = Qualified} (record { prefix = p; local = l }) (record { prefix = q; local = m }) = cc in
    (ap (λ (x : Qualified). x.prefix) same, ap (λ (x : Qualified). x.local) same)

-- equal written names have one expanded name
one_name : (space local other_space other : List ℕ) → Placed space → Placed other_space → is_local_name local ≡ true → is_local_name other ≡ true
    → name_of space local ≡ name_of other_space other → (space ≡ other_space) × (local ≡ other)
one_name space local other_space other here there is isn same =
    let parts = qualified_is (bare space) local (bare other_space) other
    (sym (qualified_name space local here is) ∙ (ap qualified same ∙ qualified_name other_space other there isn)) in
    (sym (bare_back space here) ∙ (ap back parts.0 ∙ bare_back other_space there), parts.1)

-- names consist of name bytes

pub local_of : (name : List ℕ) → is_name name ≡ true → is_local_name name ≡ true
unfolding is_name
local_of name is = (and_parts (is_local_name name) (list_all is_name_byte name) is).0

bytes_of : (name : List ℕ) → is_name name ≡ true → list_all is_name_byte name ≡ true
unfolding is_name
bytes_of name is = (and_parts (is_local_name name) (list_all is_name_byte name) is).1

nil_no_name : is_local_name [] ≡ true → ⊥
unfolding is_local_name
nil_no_name e = cc

some_name : (name : List ℕ) → is_local_name name ≡ true → 0 < length name
some_name [] is = absurd (nil_no_name is)
some_name (b ∷ name) is = omega arith

by_bytes : (name : List ℕ) → 0 < length name → list_all is_name_byte name ≡ true → IsSome is_name_byte name
by_bytes name some all = record { some = some; pass = AllPass-from_list_all is_name_byte name all }

pub name_bytes : (space local : List ℕ) → Placed space → is_name local ≡ true → IsSome is_name_byte (name_of space local)
name_bytes space local (in_soap e) is = rw (e, name_soap local) (by_bytes (83 ∷ 58 ∷ local) (omega arith) (bytes_of local is))
name_bytes space local (in_ebms e) is = rw (e, name_ebms local) (by_bytes (101 ∷ 98 ∷ 58 ∷ local) (omega arith) (bytes_of local is))
name_bytes space local (nowhere e) is = rw (e, name_nowhere local) (by_bytes local (some_name local (local_of local is)) (bytes_of local is))

-- the prefixes are bound to their namespaces

pub record InScope (scope : List Binding) : Type 0 where
  pub soap_bound : found scope (codes "S") ≡ Some soap
  pub ebms_bound : found scope (codes "eb") ≡ Some ebms

soap_space : (scope : List Binding) → InScope scope → element_space scope (codes "S") ≡ Some soap
unfolding element_space
soap_space scope in_it = ap (or_none (codes "S")) in_it.soap_bound

ebms_space : (scope : List Binding) → InScope scope → element_space scope (codes "eb") ≡ Some ebms
unfolding element_space
ebms_space scope in_it = ap (or_none (codes "eb")) in_it.ebms_bound

pub prefix_space : (scope : List Binding) (space : List ℕ) → InScope scope → has_prefix space ≡ true → element_space scope (bare space) ≡ Some space
unfolding has_prefix
prefix_space scope space in_it is =
    elim (told (bytes_eq space soap)) as (λ _. element_space scope (bare space) ≡ Some space) [
      | inl soap_it ↦ rw (same_bytes space soap soap_it) (soap_space scope in_it)
      | inr other ↦ rw (same_bytes space ebms (rw other at is)) (ebms_space scope in_it)
    ]

attribute_prefix : (scope : List Binding) (space : List ℕ) → InScope scope → Placed space → attribute_space scope (bare space) ≡ Some space
unfolding attribute_space
attribute_prefix scope space in_it (in_soap e) = rw e (soap_space scope in_it)
attribute_prefix scope space in_it (in_ebms e) = rw e (ebms_space scope in_it)
attribute_prefix scope space in_it (nowhere e) = rw e refl

-- attributes

-- the facts about an attribute of canonical text
pub record IsRight (a : Attribute) : Type 0 where
  pub placed : Placed a.space
  pub named : is_name a.local ≡ true
  pub binds_nothing : (is_empty a.space && binds_default a.local) ≡ false
  pub xml : is_xml a.value ≡ true

or_other : (a b : Bool) → a ≡ false → (a || b) ≡ true → b ≡ true
or_other a b no_a e = rw no_a at e

placed_or_not : (space : List ℕ) → ((length space == 0) || has_prefix space) ≡ true → Placed space
placed_or_not space is =
    elim (told (length space == 0)) as (λ _. Placed space) [
      | inl none ↦ nowhere (nil_from_length space (grind (arith, nat_tests, none)))
      | inr some ↦ placed_by space (or_other (length space == 0) (has_prefix space) some is)
    ]

pub right_attribute : (a : Attribute) → is_attribute a ≡ true → is_named_attribute a ≡ true → IsRight a
unfolding is_attribute is_named_attribute
right_attribute a is named =
    let one = and_parts ((length a.space == 0) || has_prefix a.space) (is_xml a.value) is in
    let two = and_parts (is_name a.local) (not (is_empty a.space && binds_default a.local)) named in
    record { placed = placed_or_not a.space one.0; named = two.0; binds_nothing = not_false (is_empty a.space && binds_default a.local) two.1; xml = one.1 }

-- an attribute as written: one space before it, no blanks around its `=`, double quotes
abbrev pub quoted : List ℕ → List ℕ → WrittenAttribute
quoted name value = record { blanks = 32 ∷ []; name = name; left = []; right = []; quote = 34; value = escaped value }

pub print_quoted : (name value : List ℕ) → print_attribute (quoted name value) ≡ attribute name value
unfolding print_attribute attribute
print_quoted name value = simp append_assoc

no_blanks : AllPass is_blank []
no_blanks = AllPass-from_list_all is_blank [] refl

pub quoted_is : (name value : List ℕ) → IsSome is_name_byte name → IsAttribute (quoted name value)
quoted_is name value is = record {
  blanks = record { some = omega arith; pass = AllPass-from_list_all is_blank (32 ∷ []) refl };
  name = is;
  left = no_blanks;
  right = no_blanks;
  quote = refl;
  value = escaped_is_value value;
}

abbrev pub quoted_attribute : Attribute → WrittenAttribute
quoted_attribute a = quoted (name_of a.space a.local) a.value

abbrev pub plain_written : Attribute → Written
plain_written a = written (quoted_attribute a)

any_take : (p : ℕ → Bool) (n : ℕ) (xs : List ℕ) → list_any p xs ≡ false → list_any p (take n xs) ≡ false
any_take p zero xs none = refl
any_take p (suc n) [] none = refl
any_take p (suc n) (x ∷ xs) none =
    let split = neither (p x) (list_any p xs) none in
    rw (split.0, any_take p n xs split.1) refl

colon_in_xmlns : list_any is_colon (codes "xmlns:") ≡ true
colon_in_xmlns = refl

pub true_false : {P : Type 0} (b : Bool) → b ≡ true → b ≡ false → P
true_false b is isnt = absurd cc

no_prefix_bound : (local : List ℕ) → list_any is_colon local ≡ false → binds_prefix local ≡ false
no_prefix_bound local none =
    false_from_ne_true (binds_prefix local)
    (λ is. true_false (list_any is_colon (take 6 local)) (ap (list_any is_colon) (same_bytes (take 6 local) (codes "xmlns:") is) ∙ colon_in_xmlns) (any_take is_colon 6 local none))

soap_no_default : (local : List ℕ) → binds_default (83 ∷ 58 ∷ local) ≡ false
soap_no_default local = refl

ebms_no_default : (local : List ℕ) → binds_default (101 ∷ 98 ∷ 58 ∷ local) ≡ false
ebms_no_default local = refl

by_placed : (space local : List ℕ) → Placed space → (is_empty space && binds_default local) ≡ false → binds_default (name_of space local) ≡ false
by_placed space local (in_soap e) none = rw e (ap binds_default (name_soap local) ∙ soap_no_default local)
by_placed space local (in_ebms e) none = rw e (ap binds_default (name_ebms local) ∙ ebms_no_default local)
by_placed space local (nowhere e) none = rw e (ap binds_default (name_nowhere local) ∙ (rw e at none))

prefix_by_placed : (space local : List ℕ) → Placed space → list_any is_colon local ≡ false → binds_prefix (name_of space local) ≡ false
prefix_by_placed space local (in_soap e) none = rw e (ap binds_prefix (name_soap local) ∙ refl)
prefix_by_placed space local (in_ebms e) none = rw e (ap binds_prefix (name_ebms local) ∙ refl)
prefix_by_placed space local (nowhere e) none = rw e (ap binds_prefix (name_nowhere local) ∙ no_prefix_bound local none)

-- an attribute is no declaration
pub no_default : (a : Attribute) → IsRight a → binds_default (name_of a.space a.local) ≡ false
no_default a r = by_placed a.space a.local r.placed r.binds_nothing

pub no_prefix : (a : Attribute) → IsRight a → binds_prefix (name_of a.space a.local) ≡ false
no_prefix a r = prefix_by_placed a.space a.local r.placed (no_colon a.local (local_of a.local r.named))

declares_nothing : (a : Attribute) → IsRight a → declared_by (plain_written a) ≡ Some []
unfolding declared_by
declares_nothing a r = rw (no_default a r, no_prefix a r) refl

is_attribute_of : (scope : List Binding) (a : Attribute) → InScope scope → IsRight a → attribute_by scope (plain_written a) ≡ Some (a ∷ [])
unfolding attribute_by
is_attribute_of scope a in_it r =
    rw (no_default a r, no_prefix a r, qualified_name a.space a.local r.placed (local_of a.local r.named), attribute_prefix scope a.space in_it r.placed, escaped_characters true a.value r.xml) refl

pub all_declare_nothing : (attributes : List Attribute) → AllByRecursion IsRight attributes → gathered declared_by (map plain_written attributes) ≡ Some []
all_declare_nothing [] right = refl
all_declare_nothing (a ∷ attributes) right = rw (declares_nothing a right.0, all_declare_nothing attributes right.1) refl

pub all_attributes : (scope : List Binding) (attributes : List Attribute) → InScope scope → AllByRecursion IsRight attributes
    → gathered (attribute_by scope) (map plain_written attributes) ≡ Some attributes
all_attributes scope [] in_it right = refl
all_attributes scope (a ∷ attributes) in_it right = rw (is_attribute_of scope a in_it right.0, all_attributes scope attributes in_it right.1) refl

-- no written name occurs twice

both_same : (a b : Attribute) → a.space ≡ b.space → a.local ≡ b.local → same_name a b ≡ true
both_same a b space local = rw ((bytes_eq-Decides a.space b.space).1 space, (bytes_eq-Decides a.local b.local).1 local) refl

other_name : (a b : Attribute) → IsRight a → IsRight b → same_name a b ≡ false → same_written (plain_written a) (plain_written b) ≡ false
other_name a b one other differ =
    false_from_ne_true (same_written (plain_written a) (plain_written b))
    (λ is.
    let same = one_name a.space a.local b.space b.local one.placed other.placed (local_of a.local one.named) (local_of b.local other.named)
    (same_bytes (name_of a.space a.local) (name_of b.space b.local) is) in
    true_false (same_name a b) (both_same a b same.0 same.1) differ)

none_like : (a : Attribute) (others : List Attribute) → IsRight a → AllByRecursion IsRight others → list_any (same_name a) others ≡ false
    → list_any (same_written (plain_written a)) (map plain_written others) ≡ false
none_like a [] one right none = refl
none_like a (b ∷ others) one right none =
    let split = neither (same_name a b) (list_any (same_name a) others) none in
    rw (other_name a b one right.0 split.0, none_like a others one right.1 split.1) refl

pub written_apart : (attributes : List Attribute) → AllByRecursion IsRight attributes → names_differ attributes ≡ true → written_differ (map plain_written attributes) ≡ true
written_apart [] right differ = refl
written_apart (a ∷ attributes) right differ =
    let split = and_parts (not (list_any (same_name a) attributes)) (names_differ attributes) differ in
    rw (none_like a attributes right.0 right.1 (not_false _ split.0), written_apart attributes right.1 split.1) refl
