-- The canonical text of a tree is a document of that tree.
use Rattle.std.proofs.Common.{◌≡◌, ℕ, ◌+◌, ◌-◌, ◌<◌, ◌≤◌, Bool, true, false, ◌&&◌, List, [], ◌∷◌, ◌++◌, map, Some, Ok, length, refl, sym, ap, subst, ◌∙◌, append_assoc, append-nil, arith}
use Rattle.std.proofs.lemmas.Bool.{and_parts, false_from_ne_true}
use Rattle.std.proofs.lemmas.Bool.Decides.{nat_tests}
use Rattle.std.proofs.lemmas.List.{map-append}
use Rattle.std.proofs.lemmas.List.Concat.{flat_map-append}
use Rattle.std.proofs.lemmas.List.Folds.{flat_map-map, list_all-map}
use Rattle.std.proofs.lemmas.List.Sums.{AllPass-from_list_all}
use Rattle.std.specs.Prelude.{codes, nat_le}
use Rattle.std.specs.List.{flat_map, list_all, list_any, AllByRecursion}
use Rattle.std.specs.Str.{bytes_eq}
use Rattle.as4_values.specs.Texts.{is_xml}
use Rattle.byte_forms.specs.Classes.{is_blank}
use Rattle.as4_envelope.specs.Markup.{escaped, tag_start, tag_end, attribute}
use Rattle.as4_envelope.specs.Markup as markup
use Rattle.as4_envelope.specs.Tree.{soap, ebms, name_of, attribute_text, declarations, element_text, child_text, tree_text}
use Rattle.as4_envelope.specs.Writable.{has_prefix, is_attribute, names_differ, is_sound, fits, is_writable}
use Rattle.as4_envelope.proofs.TreeLemmas.{element_text_out}
use Rattle.as4_envelope.proofs.WritableLemmas.{fits_out}
use Rattle.as4_envelope.specs.declared.tree.Attribute.{Attribute}
use Rattle.as4_envelope.specs.declared.tree.Element.{Element}
use Rattle.as4_envelope.specs.declared.tree.Element.TheOpen.{Element-F}
use Rattle.as4_envelope.specs.declared.tree.Element.TheViews.{out-Element, roll-Element, roll-out-Element, out-roll-Element}
use Rattle.as4_envelope.specs.declared.tree.Element.TheFolds.{fold-Element, fold-roll-Element, ind-Element}
use Rattle.xml_items.specs.Classes.{is_name_byte, is_text_byte}
use Rattle.xml_items.specs.Items.{Written, Tag, Item, start, finish, run}
use Rattle.xml_items.specs.Grammar as grammar
use Rattle.xml_items.specs.Grammar.{WrittenItem, WrittenAttribute, WrittenTag, IsTag, IsAttribute, IsSome, Stops, print_item, print_tag, print_attribute, meaning, written, IsItem}
use Rattle.tree_reader.specs.Steps.{gathered}
use Rattle.tree_reader.specs.Names.{Qualified, qualified}
use Rattle.tree_reader.specs.Decoded.{value_meant}
use Rattle.tree_reader.specs.Scopes.{Binding, Begun, scope_of, may_bind, bound, binds_prefix, declared_by, element_space, attribute_by, same_written, written_differ, resolve}
use Rattle.tree_reader.specs.Reading.{within, done, placed, run_items, nothing_read}
use Rattle.tree_reader.specs.Documents.{Cuts, IsDocument, limit, levels, behind_mark}
use Rattle.tree_reader.specs.Readable.{is_name, is_named_attribute, has_names, has_names_step}
use Rattle.tree_reader.proofs.SpellLemmas.{goes, at_state, at_items, start_steps, text_steps, finish_steps}
use Rattle.tree_reader.proofs.TreeLemmas.{runs_spells}
use Rattle.tree_reader.proofs.SimpleLemmas.{ascii_xml}
use Rattle.tree_reader.proofs.EscapedLemmas.{escaped_is_text, escaped_some, escaped_characters}
use Rattle.tree_reader.proofs.CanonicalNames.{Placed, placed_by, bare, qualified_name, local_of, name_bytes, InScope, prefix_space, IsRight, right_attribute, quoted, print_quoted, quoted_is, quoted_attribute, plain_written, no_prefix, all_declare_nothing, all_attributes, written_apart, soap_local, ebms_local, same_bytes, true_false}

-- the items of canonical text

abbrev text_items : List ℕ → List WrittenItem
text_items [] = []
text_items (b ∷ bytes) = grammar.text (escaped (b ∷ bytes)) ∷ []

abbrev tag_of : List WrittenAttribute → {X : Type 0} → Element-F X → WrittenTag
tag_of declared e = record { name = name_of e.space e.local; attributes = declared ++ map quoted_attribute e.attributes; blanks = []; closed = false }

abbrev items_step : Element-F (List WrittenAttribute → List WrittenItem) → List WrittenAttribute → List WrittenItem
items_step e declared =
    grammar.start_tag (tag_of declared e)
    ∷ (text_items e.text ++ (flat_map (λ child. child []) e.children ++ grammar.end_tag (name_of e.space e.local) [] ∷ []))

element_items : Element → List WrittenAttribute → List WrittenItem
element_items = fold-Element (List WrittenAttribute → List WrittenItem) items_step

child_items : Element → List WrittenItem
child_items e = element_items e []

items_roll : (x : Element-F Element) (declared : List WrittenAttribute) → element_items (roll-Element x) declared
    ≡ grammar.start_tag (tag_of declared x) ∷ (text_items x.text ++ (flat_map child_items x.children ++ grammar.end_tag (name_of x.space x.local) [] ∷ []))
unfolding element_items child_items
items_roll x declared =
    ap (λ f. f declared) (fold-roll-Element (List WrittenAttribute → List WrittenItem) items_step x)
    ∙ ap (λ (cs : List WrittenItem). grammar.start_tag (tag_of declared x) ∷ (text_items x.text ++ (cs ++ grammar.end_tag (name_of x.space x.local) [] ∷ [])))
    (flat_map-map (λ child. child []) element_items x.children)

-- the two tags of an element
abbrev start_of : Element-F Element → List ℕ → List ℕ
start_of x declared = tag_start (name_of x.space x.local) ++ (declared ++ flat_map attribute_text x.attributes) ++ tag_end

abbrev end_of : Element-F Element → List ℕ
end_of x = markup.end_tag (name_of x.space x.local)

names_roll : (x : Element-F Element) → has_names (roll-Element x) ≡ (is_name x.local && list_all is_named_attribute x.attributes && list_all has_names x.children)
unfolding has_names
names_roll x =
    fold-roll-Element Bool has_names_step x
    ∙ ap (λ (b : Bool). is_name x.local && list_all is_named_attribute x.attributes && b) (list_all-map (λ child. child) has_names x.children)

fits_roll : (x : Element-F Element) (n : ℕ) → fits (roll-Element x) n ≡ (nat_le 1 n && is_sound x && list_all (λ child. fits child (n - 1)) x.children)
fits_roll x n =
    fits_out (roll-Element x) n
    ∙ ap (λ (y : Element-F Element). nat_le 1 n && is_sound y && list_all (λ child. fits child (n - 1)) y.children) (out-roll-Element x)

text_roll : (x : Element-F Element) (declared : List ℕ) → element_text (roll-Element x) declared
    ≡ start_of x declared ++ (escaped x.text ++ flat_map child_text x.children) ++ end_of x
text_roll x declared =
    element_text_out (roll-Element x) declared
    ∙ ap (λ (y : Element-F Element). start_of y declared ++ (escaped y.text ++ flat_map child_text y.children) ++ end_of y) (out-roll-Element x)

-- the facts about one level of an element that the caller provides
pub record IsLevel (x : Element-F Element) (n : ℕ) : Type 0 where
  pub some : 0 < n
  pub placed : has_prefix x.space ≡ true
  pub named : is_name x.local ≡ true
  pub xml : is_xml x.text ≡ true
  pub right : AllByRecursion IsRight x.attributes
  pub differ : names_differ x.attributes ≡ true
  pub children_fit : list_all (λ child. fits child (n - 1)) x.children ≡ true
  pub children_named : list_all has_names x.children ≡ true

all_right : (attributes : List Attribute) → list_all is_attribute attributes ≡ true → list_all is_named_attribute attributes ≡ true → AllByRecursion IsRight attributes
all_right [] one other = tt
all_right (a ∷ attributes) one other =
    let here = and_parts (is_attribute a) (list_all is_attribute attributes) one in
    let named = and_parts (is_named_attribute a) (list_all is_named_attribute attributes) other in
    (right_attribute a here.0 named.0, all_right attributes here.1 named.1)

level_of : (x : Element-F Element) (n : ℕ) → fits (roll-Element x) n ≡ true → has_names (roll-Element x) ≡ true → IsLevel x n
level_of x n fit names =
    let f = and_parts (nat_le 1 n && is_sound x) (list_all (λ child. fits child (n - 1)) x.children) (sym (fits_roll x n) ∙ fit) in
    let g = and_parts (nat_le 1 n) (is_sound x) f.0 in
    let s = and_parts (has_prefix x.space && is_xml x.text && list_all is_attribute x.attributes) (names_differ x.attributes) g.1 in
    let t = and_parts (has_prefix x.space && is_xml x.text) (list_all is_attribute x.attributes) s.0 in
    let u = and_parts (has_prefix x.space) (is_xml x.text) t.0 in
    let h = and_parts (is_name x.local && list_all is_named_attribute x.attributes) (list_all has_names x.children) (sym (names_roll x) ∙ names) in
    let i = and_parts (is_name x.local) (list_all is_named_attribute x.attributes) h.0 in
    record {
      some = grind (arith, nat_tests, g.0);
      placed = u.0;
      named = i.0;
      xml = u.1;
      right = all_right x.attributes t.1 i.1;
      differ = s.1;
      children_fit = f.1;
      children_named = h.1;
    }

-- what children must satisfy: their items are cut from their text, and read as them
abbrev IsCut : Element → Type 0
IsCut e = (rest : List ℕ) (more : List WrittenItem) → Cuts rest more [] → Cuts (child_text e ++ rest) (child_items e ++ more) []

abbrev IsRead : Element → ℕ → Type 0
IsRead e n = (most : ℕ) (first : Bool) (os : List Begun) (more : List Item) → length os + n ≤ most → InScope (scope_of os)
    → run_items most (map meaning (child_items e) ++ more) (within first os) ≡ run_items most more (placed e os)

abbrev Back : Element → Type 0
Back e = (n : ℕ) → fits e n ≡ true → has_names e ≡ true → IsCut e × IsRead e n

-- cutting

attributes_printed : (attributes : List Attribute) → flat_map print_attribute (map quoted_attribute attributes) ≡ flat_map attribute_text attributes
attributes_printed [] = refl
attributes_printed (a ∷ attributes) =
    ap (λ (xs : List ℕ). xs ++ flat_map print_attribute (map quoted_attribute attributes)) (print_quoted (name_of a.space a.local) a.value)
    ∙ ap (λ (xs : List ℕ). attribute_text a ++ xs) (attributes_printed attributes)

both_right : (xs ys : List WrittenAttribute) → AllByRecursion IsAttribute xs → AllByRecursion IsAttribute ys → AllByRecursion IsAttribute (xs ++ ys)
both_right [] ys one other = other
both_right (x ∷ xs) ys one other = (one.0, both_right xs ys one.1 other)

quoted_right : (attributes : List Attribute) → AllByRecursion IsRight attributes → AllByRecursion IsAttribute (map quoted_attribute attributes)
quoted_right [] right = tt
quoted_right (a ∷ attributes) right =
    (quoted_is (name_of a.space a.local) a.value (name_bytes a.space a.local right.0.placed right.0.named), quoted_right attributes right.1)

Cuts-along : (a b : List ℕ) (xs ys : List WrittenItem) → a ≡ b → xs ≡ ys → Cuts a xs [] → Cuts b ys []
Cuts-along a b xs ys e f cut = subst (λ (zs : List WrittenItem). Cuts b zs []) f (subst (λ (c : List ℕ). Cuts c xs []) e cut)

bytes_regrouped : (x : Element-F Element) (declared rest : List ℕ) → element_text (roll-Element x) declared ++ rest
    ≡ start_of x declared ++ (escaped x.text ++ (flat_map child_text x.children ++ (end_of x ++ rest)))
bytes_regrouped x declared rest =
    ap (λ (xs : List ℕ). xs ++ rest) (text_roll x declared)
    ∙ (append_assoc (start_of x declared ++ (escaped x.text ++ flat_map child_text x.children)) (end_of x) rest
    ∙ (append_assoc (start_of x declared) (escaped x.text ++ flat_map child_text x.children) (end_of x ++ rest)
    ∙ ap (λ (xs : List ℕ). start_of x declared ++ xs) (append_assoc (escaped x.text) (flat_map child_text x.children) (end_of x ++ rest))))

items_regrouped : (x : Element-F Element) (ws : List WrittenAttribute) (more : List WrittenItem) → element_items (roll-Element x) ws ++ more
    ≡ grammar.start_tag (tag_of ws x) ∷ (text_items x.text ++ (flat_map child_items x.children ++ grammar.end_tag (name_of x.space x.local) [] ∷ more))
items_regrouped x ws more =
    let last : List WrittenItem = grammar.end_tag (name_of x.space x.local) [] ∷ [] in
    ap (λ (xs : List WrittenItem). xs ++ more) (items_roll x ws)
    ∙ ap (λ (xs : List WrittenItem). grammar.start_tag (tag_of ws x) ∷ xs)
    (append_assoc (text_items x.text) (flat_map child_items x.children ++ last) more
    ∙ ap (λ (xs : List WrittenItem). text_items x.text ++ xs) (append_assoc (flat_map child_items x.children) last more))

tag_cut : (x : Element-F Element) (ws : List WrittenAttribute) (declared : List ℕ) → flat_map print_attribute ws ≡ declared → print_tag (tag_of ws x) ≡ start_of x declared
unfolding tag_start tag_end
tag_cut x ws declared same =
    let name : List ℕ = name_of x.space x.local in
    ap (λ (xs : List ℕ). 60 ∷ (name ++ (xs ++ 62 ∷ []))) (flat_map-append print_attribute ws (map quoted_attribute x.attributes)
    ∙ (ap (λ (xs : List ℕ). xs ++ flat_map print_attribute (map quoted_attribute x.attributes)) same ∙ ap (λ (xs : List ℕ). declared ++ xs) (attributes_printed x.attributes)))
    ∙ sym (append_assoc (60 ∷ name) (declared ++ flat_map attribute_text x.attributes) (62 ∷ []))

tag_right : (x : Element-F Element) (ws : List WrittenAttribute) → Placed x.space → is_name x.local ≡ true → AllByRecursion IsAttribute ws → AllByRecursion IsRight x.attributes → IsTag (tag_of ws x)
tag_right x ws placed named first right = record {
  name = name_bytes x.space x.local placed named;
  attributes = both_right ws (map quoted_attribute x.attributes) first (quoted_right x.attributes right);
  blanks = AllPass-from_list_all is_blank [] refl;
}

-- `<` follows each text
abbrev BeginsMarkup : List ℕ → Type 0
BeginsMarkup bytes = (more : List ℕ) × (bytes ≡ 60 ∷ more)

end_begins : (x : Element-F Element) (rest : List ℕ) → BeginsMarkup (end_of x ++ rest)
unfolding markup.end_tag
end_begins x rest = (_, refl)

child_begins : (e : Element) (rest : List ℕ) → BeginsMarkup (child_text e ++ rest)
unfolding child_text tag_start
child_begins e rest = (_, ap (λ (xs : List ℕ). xs ++ rest) (element_text_out e []))

children_begin : (es : List Element) (rest : List ℕ) → BeginsMarkup rest → BeginsMarkup (flat_map child_text es ++ rest)
children_begin [] rest begins_so = begins_so
children_begin (e ∷ es) rest begins_so =
    let b = child_begins e (flat_map child_text es ++ rest) in
    (b.0, append_assoc (child_text e) (flat_map child_text es) rest ∙ b.1)

stops_there : (bytes : List ℕ) → BeginsMarkup bytes → Stops is_text_byte bytes
stops_there bytes b = subst (Stops is_text_byte) (sym b.1) refl

text_cut : (bytes rest : List ℕ) (more : List WrittenItem) → BeginsMarkup rest → Cuts rest more [] → Cuts (escaped bytes ++ rest) (text_items bytes ++ more) []
unfolding escaped IsItem print_item
text_cut [] rest more begins_so cut = cut
text_cut (b ∷ bytes) rest more begins_so cut =
    (rest, (record { some = escaped_some b bytes; pass = escaped_is_text (b ∷ bytes) }, stops_there rest begins_so), refl, cut)

end_cut : (x : Element-F Element) (rest : List ℕ) (more : List WrittenItem) → Placed x.space → is_name x.local ≡ true → Cuts rest more []
    → Cuts (end_of x ++ rest) (grammar.end_tag (name_of x.space x.local) [] ∷ more) []
unfolding markup.end_tag IsItem print_item
end_cut x rest more placed named cut =
    (rest, (name_bytes x.space x.local placed named, AllPass-from_list_all is_blank [] refl), refl, cut)

children_cut : (es : List Element) (rest : List ℕ) (more : List WrittenItem) → AllByRecursion IsCut es → Cuts rest more []
    → Cuts (flat_map child_text es ++ rest) (flat_map child_items es ++ more) []
children_cut [] rest more all cut = cut
children_cut (e ∷ es) rest more all cut =
    Cuts-along _ _ _ _ (sym (append_assoc (child_text e) (flat_map child_text es) rest)) (sym (append_assoc (child_items e) (flat_map child_items es) more))
    (all.0 (flat_map child_text es ++ rest) (flat_map child_items es ++ more) (children_cut es rest more all.1 cut))

-- an element whose first attributes are these
element_cut : (x : Element-F Element) (ws : List WrittenAttribute) (declared rest : List ℕ) (more : List WrittenItem) → flat_map print_attribute ws ≡ declared
    → AllByRecursion IsAttribute ws → Placed x.space → is_name x.local ≡ true → AllByRecursion IsRight x.attributes → AllByRecursion IsCut x.children → Cuts rest more []
    → Cuts (element_text (roll-Element x) declared ++ rest) (element_items (roll-Element x) ws ++ more) []
unfolding IsItem print_item
element_cut x ws declared rest more same first placed named right children cut =
    let name : List ℕ = name_of x.space x.local in
    let last : List ℕ = end_of x ++ rest in
    let middle : List ℕ = flat_map child_text x.children ++ last in
    let ends = end_cut x rest more placed named cut in
    let inner = children_cut x.children last (grammar.end_tag name [] ∷ more) children ends in
    let whole = text_cut x.text middle (flat_map child_items x.children ++ grammar.end_tag name [] ∷ more) (children_begin x.children last (end_begins x rest)) inner in
    Cuts-along _ _ _ _ (sym (bytes_regrouped x declared rest)) (sym (items_regrouped x ws more))
    (escaped x.text ++ middle, tag_right x ws placed named first right, ap (λ (xs : List ℕ). xs ++ (escaped x.text ++ middle)) (sym (tag_cut x ws declared same)), whole)

-- reading

resolve_by : (scope : List Binding) (name : List ℕ) (ws : List Written) (declared : List Binding) (q : Qualified) (space : List ℕ) (pairs : List Attribute)
    → written_differ ws ≡ true → gathered declared_by ws ≡ Some declared → qualified name ≡ Some q → element_space (declared ++ scope) q.prefix ≡ Some space
    → gathered (attribute_by (declared ++ scope)) ws ≡ Some pairs → names_differ pairs ≡ true
    → resolve scope name ws ≡ Some (record { name = name; declared = declared; space = space; local = q.local; attributes = pairs; text = []; children = [] })
unfolding resolve
resolve_by scope name ws declared q space pairs differ declares cut bound_to gathers apart = rw (differ, declares, cut, bound_to, gathers, apart) refl

-- a started element with these declarations
abbrev begun_by : Element-F Element → List Binding → Begun
begun_by x declared = record { name = name_of x.space x.local; declared = declared; space = x.space; local = x.local; attributes = x.attributes; text = []; children = [] }

text_read : (most : ℕ) (bytes : List ℕ) (o : Begun) (os : List Begun) (more : List Item) → is_xml bytes ≡ true
    → run_items most (map meaning (text_items bytes) ++ more) (within false (o ∷ os)) ≡ run_items most more (within false (record o { text = o.text ++ bytes } ∷ os))
unfolding meaning
text_read most [] o os more xml = at_state most more (within false (o ∷ os)) (within false (record o { text = o.text ++ [] } ∷ os)) (rw (append-nil o.text) refl)
text_read most (b ∷ bytes) o os more xml =
    goes most (run (escaped (b ∷ bytes))) more (within false (o ∷ os)) (within false (record o { text = o.text ++ b ∷ bytes } ∷ os))
    (text_steps most (escaped (b ∷ bytes)) false o os (b ∷ bytes) (escaped_characters false (b ∷ bytes) xml))

-- children that are read in n levels
abbrev AreRead : List Element → ℕ → Type 0
AreRead es n = AllByRecursion (λ e. IsRead e n) es

children_read : (most n : ℕ) (es : List Element) (o : Begun) (os : List Begun) (more : List Item) → length (o ∷ os) + n ≤ most → InScope (o.declared ++ scope_of os) → AreRead es n
    → run_items most (map meaning (flat_map child_items es) ++ more) (within false (o ∷ os)) ≡ run_items most more (within false (record o { children = o.children ++ es } ∷ os))
children_read most n [] o os more le in_it all = at_state most more (within false (o ∷ os)) (within false (record o { children = o.children ++ [] } ∷ os)) (rw (append-nil o.children) refl)
children_read most n (e ∷ es) o os more le in_it all =
    let o₂ : Begun = record o { children = o.children ++ e ∷ [] } in
    at_items most (map meaning (child_items e ++ flat_map child_items es) ++ more) (map meaning (child_items e) ++ (map meaning (flat_map child_items es) ++ more)) (within false (o ∷ os))
    (ap (λ (xs : List Item). xs ++ more) (map-append meaning (child_items e) (flat_map child_items es)) ∙ append_assoc (map meaning (child_items e)) (map meaning (flat_map child_items es)) more)
    ∙ (all.0 most false (o ∷ os) (map meaning (flat_map child_items es) ++ more) le in_it
    ∙ (children_read most n es o₂ os more le in_it all.1
    ∙ at_state most more (within false (record o₂ { children = o₂.children ++ es } ∷ os)) (within false (record o { children = o.children ++ e ∷ es } ∷ os)) (rw (append_assoc o.children (e ∷ []) es) refl)))

item_list : (x : Element-F Element) (ws : List WrittenAttribute) (more : List Item) → map meaning (element_items (roll-Element x) ws) ++ more
    ≡ start (record { name = name_of x.space x.local; attributes = map written (ws ++ map quoted_attribute x.attributes); closed = false })
    ∷ (map meaning (text_items x.text) ++ (map meaning (flat_map child_items x.children) ++ finish (name_of x.space x.local) ∷ more))
unfolding meaning
item_list x ws more =
    let last : List WrittenItem = grammar.end_tag (name_of x.space x.local) [] ∷ [] in
    let tag : Item = start (record { name = name_of x.space x.local; attributes = map written (ws ++ map quoted_attribute x.attributes); closed = false }) in
    ap (λ (xs : List WrittenItem). map meaning xs ++ more) (items_roll x ws)
    ∙ ap (λ (xs : List Item). tag ∷ xs)
    (ap (λ (xs : List Item). xs ++ more) (map-append meaning (text_items x.text) (flat_map child_items x.children ++ last)
    ∙ ap (λ (xs : List Item). map meaning (text_items x.text) ++ xs) (map-append meaning (flat_map child_items x.children) last))
    ∙ (append_assoc (map meaning (text_items x.text)) (map meaning (flat_map child_items x.children) ++ finish (name_of x.space x.local) ∷ []) more
    ∙ ap (λ (xs : List Item). map meaning (text_items x.text) ++ xs) (append_assoc (map meaning (flat_map child_items x.children)) (finish (name_of x.space x.local) ∷ []) more)))

element_read : (most n : ℕ) (first : Bool) (x : Element-F Element) (ws : List WrittenAttribute) (declared : List Binding) (os : List Begun) (more : List Item)
    → length os < most → length os + 1 + n ≤ most → InScope (declared ++ scope_of os) → is_xml x.text ≡ true → AreRead x.children n
    → resolve (scope_of os) (name_of x.space x.local) (map written (ws ++ map quoted_attribute x.attributes)) ≡ Some (begun_by x declared)
    → run_items most (map meaning (element_items (roll-Element x) ws) ++ more) (within first os) ≡ run_items most more (placed (roll-Element x) os)
element_read most n first x ws declared os more below le in_it xml children resolved =
    let name : List ℕ = name_of x.space x.local in
    let tag : Tag = record { name = name; attributes = map written (ws ++ map quoted_attribute x.attributes); closed = false } in
    let o : Begun = begun_by x declared in
    let o₂ : Begun = record o { text = x.text } in
    let o₃ : Begun = record o { text = x.text; children = x.children } in
    let last : List Item = finish name ∷ more in
    let inner : List Item = map meaning (flat_map child_items x.children) ++ last in
    at_items most (map meaning (element_items (roll-Element x) ws) ++ more) (start tag ∷ (map meaning (text_items x.text) ++ inner)) (within first os) (item_list x ws more)
    ∙ (goes most (start tag) (map meaning (text_items x.text) ++ inner) (within first os) (within false (o ∷ os)) (start_steps most tag first os o below resolved)
    ∙ (text_read most x.text o os inner xml
    ∙ (children_read most n x.children o₂ os last (omega arith) in_it children
    ∙ goes most (finish name) more (within false (o₃ ∷ os)) (placed (roll-Element x) os) (finish_steps most name false o₃ os refl))))

-- an element nested in another

map_written : (attributes : List Attribute) → map written (map quoted_attribute attributes) ≡ map plain_written attributes
map_written [] = refl
map_written (a ∷ attributes) = ap (λ (ws : List Written). plain_written a ∷ ws) (map_written attributes)

child_resolves : (x : Element-F Element) (n : ℕ) (scope : List Binding) → IsLevel x n → InScope scope
    → resolve scope (name_of x.space x.local) (map written (map quoted_attribute x.attributes)) ≡ Some (begun_by x [])
child_resolves x n scope l in_it =
    ap (resolve scope (name_of x.space x.local)) (map_written x.attributes)
    ∙ resolve_by scope (name_of x.space x.local) (map plain_written x.attributes) [] (record { prefix = bare x.space; local = x.local }) x.space x.attributes
    (written_apart x.attributes l.right l.differ) (all_declare_nothing x.attributes l.right) (qualified_name x.space x.local (placed_by x.space l.placed) (local_of x.local l.named))
    (prefix_space scope x.space in_it l.placed) (all_attributes scope x.attributes in_it l.right) l.differ

children_back : (es : List Element) (n : ℕ) → AllByRecursion Back es → list_all (λ child. fits child n) es ≡ true → list_all has_names es ≡ true → AllByRecursion IsCut es × AreRead es n
children_back [] n all fit names = (tt, tt)
children_back (e ∷ es) n all fit names =
    let f = and_parts (fits e n) (list_all (λ child. fits child n) es) fit in
    let h = and_parts (has_names e) (list_all has_names es) names in
    let here = all.0 n f.0 h.0 in
    let others = children_back es n all.1 f.1 h.1 in
    ((here.0, others.0), (here.1, others.1))

layer_back : (x : Element-F Element) → AllByRecursion Back x.children → Back (roll-Element x)
unfolding child_text child_items
layer_back x all n fit names =
    let l = level_of x n fit names in
    let some = l.some in
    let inner = children_back x.children (n - 1) all l.children_fit l.children_named in (
      λ rest more cut. element_cut x [] [] rest more refl tt (placed_by x.space l.placed) l.named l.right inner.0 cut,
      λ most first os more le in_it. element_read most (n - 1) first x [] [] os more (omega arith) (omega arith) in_it l.xml inner.1 (child_resolves x n (scope_of os) l in_it),
    )

pick_all : (es : List ((e : Element) × Back e)) → AllByRecursion Back (map (λ e. e.0) es)
pick_all [] = tt
pick_all (e ∷ es) = (e.1, pick_all es)

all_back : (e : Element) → Back e
all_back = ind-Element Back (λ x y is. layer_back x (subst (λ z. AllByRecursion Back z.children) is (pick_all y.children)))

-- the outermost element declares both prefixes

soap_value : value_meant (escaped soap) ≡ Some soap
soap_value = escaped_characters true soap (ascii_xml soap refl)

ebms_value : value_meant (escaped ebms) ≡ Some ebms
ebms_value = escaped_characters true ebms (ascii_xml ebms refl)

abbrev soap_written : WrittenAttribute
soap_written = quoted (codes "xmlns:S") soap

abbrev ebms_written : WrittenAttribute
ebms_written = quoted (codes "xmlns:eb") ebms

abbrev both_written : List WrittenAttribute
both_written = soap_written ∷ ebms_written ∷ []

abbrev both_bound : List Binding
both_bound = record { prefix = codes "S"; space = soap } ∷ record { prefix = codes "eb"; space = ebms } ∷ []

bound_by : (prefix space value : List ℕ) → value_meant value ≡ Some space → may_bind prefix space ≡ true → bound prefix value ≡ Some (record { prefix = prefix; space = space } ∷ [])
unfolding bound
bound_by prefix space value means may = rw (means, may) refl

soap_may : may_bind (codes "S") soap ≡ true
unfolding may_bind
soap_may = refl

ebms_may : may_bind (codes "eb") ebms ≡ true
unfolding may_bind
ebms_may = refl

declares_soap : declared_by (written soap_written) ≡ Some (record { prefix = codes "S"; space = soap } ∷ [])
unfolding declared_by
declares_soap = rw soap_local (bound_by (codes "S") soap (escaped soap) soap_value soap_may)

declares_ebms : declared_by (written ebms_written) ≡ Some (record { prefix = codes "eb"; space = ebms } ∷ [])
unfolding declared_by
declares_ebms = rw ebms_local (bound_by (codes "eb") ebms (escaped ebms) ebms_value ebms_may)

no_pair_soap : (scope : List Binding) → attribute_by scope (written soap_written) ≡ Some []
unfolding attribute_by
no_pair_soap scope = refl

no_pair_ebms : (scope : List Binding) → attribute_by scope (written ebms_written) ≡ Some []
unfolding attribute_by
no_pair_ebms scope = refl

-- a declaration's written name is none of the attributes' names
apart_from : (name value : List ℕ) (a : Attribute) → binds_prefix name ≡ true → IsRight a → same_written (record { name = name; value = value }) (plain_written a) ≡ false
apart_from name value a declares right =
    false_from_ne_true (bytes_eq name (name_of a.space a.local))
    (λ is. true_false (binds_prefix (name_of a.space a.local)) (sym (ap binds_prefix (same_bytes name (name_of a.space a.local) is)) ∙ declares) (no_prefix a right))

apart_from_all : (name value : List ℕ) (attributes : List Attribute) → binds_prefix name ≡ true → AllByRecursion IsRight attributes
    → list_any (same_written (record { name = name; value = value })) (map plain_written attributes) ≡ false
apart_from_all name value [] declares right = refl
apart_from_all name value (a ∷ attributes) declares right = rw (apart_from name value a declares right.0, apart_from_all name value attributes declares right.1) refl

abbrev root_written : List Attribute → List Written
root_written attributes = written soap_written ∷ written ebms_written ∷ map plain_written attributes

root_apart : (attributes : List Attribute) → AllByRecursion IsRight attributes → names_differ attributes ≡ true → written_differ (root_written attributes) ≡ true
root_apart attributes right differ =
    rw (
      apart_from_all (codes "xmlns:S") (escaped soap) attributes refl right,
      apart_from_all (codes "xmlns:eb") (escaped ebms) attributes refl right,
      written_apart attributes right differ,
    ) refl

root_declares : (attributes : List Attribute) → AllByRecursion IsRight attributes → gathered declared_by (root_written attributes) ≡ Some both_bound
root_declares attributes right = rw (declares_soap, declares_ebms, all_declare_nothing attributes right) refl

root_scope : InScope (both_bound ++ [])
root_scope = record { soap_bound = refl; ebms_bound = refl }

root_gathers : (attributes : List Attribute) → AllByRecursion IsRight attributes → gathered (attribute_by (both_bound ++ [])) (root_written attributes) ≡ Some attributes
root_gathers attributes right =
    rw (no_pair_soap (both_bound ++ []), no_pair_ebms (both_bound ++ []), all_attributes (both_bound ++ []) attributes root_scope right) refl

root_resolves : (x : Element-F Element) (n : ℕ) → IsLevel x n
    → resolve [] (name_of x.space x.local) (map written (both_written ++ map quoted_attribute x.attributes)) ≡ Some (begun_by x both_bound)
root_resolves x n l =
    ap (λ (ws : List Written). resolve [] (name_of x.space x.local) (written soap_written ∷ written ebms_written ∷ ws)) (map_written x.attributes)
    ∙ resolve_by [] (name_of x.space x.local) (root_written x.attributes) both_bound (record { prefix = bare x.space; local = x.local }) x.space x.attributes
    (root_apart x.attributes l.right l.differ) (root_declares x.attributes l.right) (qualified_name x.space x.local (placed_by x.space l.placed) (local_of x.local l.named))
    (prefix_space (both_bound ++ []) x.space root_scope l.placed) (root_gathers x.attributes l.right) l.differ

declarations_printed : flat_map print_attribute both_written ≡ declarations
unfolding declarations
declarations_printed =
    ap (λ (xs : List ℕ). xs ++ (print_attribute ebms_written ++ [])) (print_quoted (codes "xmlns:S") soap)
    ∙ ap (λ (xs : List ℕ). attribute (codes "xmlns:S") soap ++ xs) (append-nil (print_attribute ebms_written) ∙ print_quoted (codes "xmlns:eb") ebms)

name_right : (name : List ℕ) → 0 < length name → list_all is_name_byte name ≡ true → IsSome is_name_byte name
name_right name some all = record { some = some; pass = AllPass-from_list_all is_name_byte name all }

declarations_right : AllByRecursion IsAttribute both_written
declarations_right = (quoted_is (codes "xmlns:S") soap (name_right (codes "xmlns:S") (omega arith) refl), (quoted_is (codes "xmlns:eb") ebms (name_right (codes "xmlns:eb") (omega arith) refl), tt))

all_cut_and_read : (es : List Element) → AllByRecursion Back es
all_cut_and_read [] = tt
all_cut_and_read (e ∷ es) = (all_back e, all_cut_and_read es)

-- canonical text begins with no byte order mark
no_mark : (bytes more : List ℕ) → bytes ≡ 60 ∷ more → behind_mark bytes ≡ bytes
unfolding behind_mark
no_mark bytes more is = rw is refl

root_begins : (x : Element-F Element) → BeginsMarkup (element_text (roll-Element x) declarations)
unfolding tag_start
root_begins x = (_, text_roll x declarations)

rolled_document : (x : Element-F Element) → is_writable (roll-Element x) ≡ true → has_names (roll-Element x) ≡ true → length (tree_text (roll-Element x)) ≤ limit
    → IsDocument (tree_text (roll-Element x)) (roll-Element x)
rolled_document x writable names short =
    let l = level_of x 32 writable names in
    let inner = children_back x.children 31 (all_cut_and_read x.children) l.children_fit l.children_named in
    let t : Element = roll-Element x in
    let items : List WrittenItem = element_items t both_written in
    let cut : Cuts (element_text t declarations ++ []) (items ++ []) [] =
    element_cut x both_written declarations [] [] declarations_printed declarations_right (placed_by x.space l.placed) l.named l.right inner.0 refl in
    let runs : run_items levels (map meaning items ++ []) nothing_read ≡ Ok (done t) =
    element_read levels 31 true x both_written both_bound [] [] (omega arith) (omega arith) root_scope l.xml inner.1 (root_resolves x 32 l) in
    let whole : Cuts (element_text t declarations) items [] = Cuts-along _ _ _ _ (append-nil (element_text t declarations)) (append-nil items) cut in
    record {
      items = items;
      short = short;
      cut = rw (no_mark (element_text t declarations) (root_begins x).0 (root_begins x).1) whole;
      spelled = runs_spells levels (map meaning items) t (rw (append-nil (map meaning items)) at runs);
    }

-- the canonical text of a tree whose local names are names is a document of that tree
pub text_is_document : (tree : Element) → is_writable tree ≡ true → has_names tree ≡ true → length (tree_text tree) ≤ limit → IsDocument (tree_text tree) tree
text_is_document tree writable names short =
    let P : Element → Type 0 = λ t. is_writable t ≡ true → has_names t ≡ true → length (tree_text t) ≤ limit → IsDocument (tree_text t) t in
    subst P (roll-out-Element tree) (rolled_document (out-Element tree)) writable names short
