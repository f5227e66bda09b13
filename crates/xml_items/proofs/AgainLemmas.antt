-- A written item is cut again.
use Rattle.std.proofs.Common.{◌≡◌, ℕ, zero, suc, ◌≤◌, Bool, true, false, List, [], ◌∷◌, ◌++◌, length, map, Option, Some, None, refl, ap, subst, ◌∙◌, arith, inl, inr, append_assoc, length-append, ◌⊎◌, ◌==◌}
use Rattle.std.specs.Prelude.{◌||◌}
use Rattle.std.specs.List.{flat_map, AllByRecursion, AllPass, take_while}
use Rattle.std.proofs.lemmas.Bool.{eqb-true, or_cases, not-true, false_from_ne_true, cond-false}
use Rattle.std.proofs.lemmas.List.Concat.{flat_map-cons}
use Rattle.byte_forms.specs.Classes.{is_blank}
use Rattle.xml_items.specs.Classes.{is_name_byte, is_quote, is_value_byte, is_text_byte, declares}
use Rattle.xml_items.specs.Items.{Item, declaration, comment, start, finish, run}
use Rattle.byte_forms.specs.Cuts.{skip, strip_prefix}
use Rattle.xml_items.specs.Cutting.{value_in, value_at, attribute_at, attributes_within, attributes_at, tag_end_at, start_at, finish_at, dashes_at, comment_at, declaration_at, markup_at, item_at}
use Rattle.xml_items.specs.Grammar.{IsSome, Stops, WrittenAttribute, print_attribute, IsAttribute, written, WrittenTag, print_tag_end, print_tag, IsTag, WrittenItem, xml_declaration, remark, start_tag, end_tag, text, print_item, IsRemark, IsItem, meaning}
use Rattle.xml_items.proofs.AttributeLemmas.{length-print_attribute}
use Rattle.byte_forms.proofs.CutLemmas.{strip_prefix_takes, strip_prefix_again}
use Rattle.xml_items.proofs.RunLemmas.{pass_head, stops_some, stops_behind, take_again, skip_again, run_again, run_none}
use Rattle.xml_items.proofs.TakenLemmas.{print_attribute-append, print_tag-append, three}

-- ---- distinct classes

blank_is : (b : ℕ) → is_blank b ≡ true → (b ≡ 32) ⊎ ((b ≡ 9) ⊎ ((b ≡ 10) ⊎ (b ≡ 13)))
blank_is b is = elim (or_cases (((b == 32) || (b == 9)) || (b == 10)) (b == 13) is) [
  | inr d ↦ inr (inr (inr (eqb-true b 13 d)))
  | inl e ↦ elim (or_cases ((b == 32) || (b == 9)) (b == 10) e) [
    | inr d ↦ inr (inr (inl (eqb-true b 10 d)))
    | inl f ↦ elim (or_cases (b == 32) (b == 9) f) [
      | inl d ↦ inl (eqb-true b 32 d)
      | inr d ↦ inr (inl (eqb-true b 9 d))
    ]
  ]
]

-- a fact about each blank
of_blanks : (P : ℕ → Type 0) → P 32 → P 9 → P 10 → P 13 → (b : ℕ) → is_blank b ≡ true → P b
of_blanks P s t l c b is = elim (blank_is b is) [
  | inl d ↦ rw d s
  | inr (inl d) ↦ rw d t
  | inr (inr (inl d)) ↦ rw d l
  | inr (inr (inr d)) ↦ rw d c
]

blank_no_name : (b : ℕ) → is_blank b ≡ true → is_name_byte b ≡ false
blank_no_name = of_blanks (λ b. is_name_byte b ≡ false) refl refl refl refl

name_no_blank : (b : ℕ) → is_name_byte b ≡ true → is_blank b ≡ false
name_no_blank b is = false_from_ne_true (is_blank b) (λ blank. let no = blank_no_name b blank in cc)

of_quotes : (P : ℕ → Type 0) → P 34 → P 39 → (b : ℕ) → is_quote b ≡ true → P b
of_quotes P d s b is = elim (or_cases (b == 34) (b == 39) is) [
  | inl e ↦ rw (eqb-true b 34 e) d
  | inr e ↦ rw (eqb-true b 39 e) s
]

quote_no_blank : (b : ℕ) → is_quote b ≡ true → is_blank b ≡ false
quote_no_blank = of_quotes (λ b. is_blank b ≡ false) refl refl

quote_no_value : (b : ℕ) → is_quote b ≡ true → is_value_byte b b ≡ false
quote_no_value = of_quotes (λ b. is_value_byte b b ≡ false) refl refl

-- ---- attributes

value_again : (quote : ℕ) (value rest : List ℕ) → is_quote quote ≡ true → AllPass (is_value_byte quote) value → value_at (quote ∷ (value ++ quote ∷ rest)) ≡ Some (value, rest)
unfolding value_at value_in
value_again quote value rest is pass =
    let stops : Stops (is_value_byte quote) (quote ∷ rest) = quote_no_value quote is in
    rw (is, skip_again (is_value_byte quote) value (quote ∷ rest) pass stops, take_again (is_value_byte quote) value (quote ∷ rest) pass stops, strip_prefix_again (quote ∷ []) rest) refl

attribute_again : (a : WrittenAttribute) (rest : List ℕ) → IsAttribute a → attribute_at (print_attribute a ++ rest) ≡ Some (written a, rest)
unfolding attribute_at
attribute_again a rest is =
    let valued : List ℕ = a.quote ∷ (a.value ++ a.quote ∷ rest) in
    let equalled : List ℕ = 61 ∷ (a.right ++ a.quote ∷ (a.value ++ a.quote ∷ rest)) in
    let named : List ℕ = a.name ++ (a.left ++ 61 ∷ (a.right ++ a.quote ∷ (a.value ++ a.quote ∷ rest))) in
    rw (
      print_attribute-append a rest,
      run_again is_blank a.blanks named is.blanks (stops_some is_name_byte is_blank a.name (a.left ++ equalled) name_no_blank is.name),
      run_again is_name_byte a.name (a.left ++ equalled) is.name (stops_behind is_blank is_name_byte a.left equalled blank_no_name is.left refl),
      skip_again is_blank a.left equalled is.left refl,
      strip_prefix_again (61 ∷ []) (a.right ++ valued),
      skip_again is_blank a.right valued is.right (quote_no_blank a.quote is.quote),
      value_again a.quote a.value rest is.quote is.value,
    ) refl

-- after blanks there is no name, hence no attribute
attribute_none : (blanks rest : List ℕ) → AllPass is_blank blanks → Stops is_blank rest → Stops is_name_byte rest → attribute_at (blanks ++ rest) ≡ None
unfolding attribute_at
attribute_none [] rest pass no_blank no_name = rw (run_none is_blank rest no_blank) refl
attribute_none (b ∷ blanks) rest pass no_blank no_name =
    rw (run_again is_blank (b ∷ blanks) rest (record { some = omega arith; pass = pass }) no_blank, run_none is_name_byte rest no_name) refl

attributes_within_again : (n : ℕ) (parts : List WrittenAttribute) (blanks rest : List ℕ) → length parts ≤ n → AllByRecursion IsAttribute parts → AllPass is_blank blanks → Stops is_blank rest → Stops is_name_byte rest → attributes_within n (flat_map print_attribute parts ++ (blanks ++ rest)) ≡ (map written parts, blanks ++ rest)
unfolding attributes_within
attributes_within_again zero [] blanks rest few each pass no_blank no_name = refl
attributes_within_again (suc n) [] blanks rest few each pass no_blank no_name =
    rw (attribute_none blanks rest pass no_blank no_name, attributes_within) refl
attributes_within_again zero (a ∷ parts) blanks rest few each pass no_blank no_name = absurd (omega arith)
attributes_within_again (suc n) (a ∷ parts) blanks rest few each pass no_blank no_name =
    let more : List ℕ = flat_map print_attribute parts ++ (blanks ++ rest) in
    let grouped : flat_map print_attribute (a ∷ parts) ++ (blanks ++ rest) ≡ print_attribute a ++ (flat_map print_attribute parts ++ (blanks ++ rest)) = rw flat_map-cons (append_assoc (print_attribute a) (flat_map print_attribute parts) (blanks ++ rest)) in
    ap (attributes_within (suc n)) grouped ∙ rw (attribute_again a more each.0, attributes_within, attributes_within_again n parts blanks rest (omega arith) each.1 pass no_blank no_name) refl

length-attributes : (parts : List WrittenAttribute) → AllByRecursion IsAttribute parts → length parts ≤ length (flat_map print_attribute parts)
length-attributes [] each = omega arith
length-attributes (a ∷ parts) each =
    rw flat_map-cons (omega (arith, length-append (print_attribute a) (flat_map print_attribute parts), length-print_attribute a each.0, length-attributes parts each.1))

pub attributes_again : (parts : List WrittenAttribute) (blanks rest : List ℕ) → AllByRecursion IsAttribute parts → AllPass is_blank blanks → Stops is_blank rest → Stops is_name_byte rest → attributes_at (flat_map print_attribute parts ++ (blanks ++ rest)) ≡ (map written parts, blanks ++ rest)
unfolding attributes_at
attributes_again parts blanks rest each pass no_blank no_name =
    attributes_within_again (length (flat_map print_attribute parts ++ (blanks ++ rest))) parts blanks rest (omega (arith, length-attributes parts each, length-append (flat_map print_attribute parts) (blanks ++ rest))) each pass no_blank no_name

-- ---- items

-- an item that is cut again
abbrev Again : WrittenItem → List ℕ → Type 0
Again w rest = item_at (print_item w ++ rest) ≡ Some (meaning w, rest)

tag_end_again : (closed : Bool) (rest : List ℕ) → tag_end_at (print_tag_end closed ++ rest) ≡ Some (closed, rest)
unfolding tag_end_at strip_prefix
tag_end_again true rest = refl
tag_end_again false rest = refl

tag_end_stops : (class : ℕ → Bool) (closed : Bool) (rest : List ℕ) → class 47 ≡ false → class 62 ≡ false → Stops class (print_tag_end closed ++ rest)
tag_end_stops class true rest slash angle = slash
tag_end_stops class false rest slash angle = angle

-- the first byte of a name doesn't begin other markup
name_is_no : (mark b : ℕ) → is_name_byte mark ≡ false → is_name_byte b ≡ true → (b == mark) ≡ false
name_is_no mark b other is = false_from_ne_true (b == mark) (λ same. let at : is_name_byte mark ≡ true = subst (λ (y : ℕ). is_name_byte y ≡ true) (eqb-true b mark same) is in cc)

-- a name is followed by blanks, or by a byte that doesn't continue it
after_name : (parts : List WrittenAttribute) (rest : List ℕ) → AllByRecursion IsAttribute parts → Stops is_name_byte rest → Stops is_name_byte (flat_map print_attribute parts ++ rest)
unfolding print_attribute
after_name [] rest each stops = stops
after_name (a ∷ parts) rest each stops =
    let grouped : flat_map print_attribute (a ∷ parts) ++ rest ≡ print_attribute a ++ (flat_map print_attribute parts ++ rest) = rw flat_map-cons (append_assoc (print_attribute a) (flat_map print_attribute parts) rest) in
    rw (grouped, print_attribute-append) (stops_some is_blank is_name_byte a.blanks (a.name ++ (a.left ++ 61 ∷ (a.right ++ a.quote ∷ (a.value ++ a.quote ∷ (flat_map print_attribute parts ++ rest))))) blank_no_name each.0.blanks)

start_at_again : (t : WrittenTag) (rest : List ℕ) → IsTag t → start_at (t.name ++ (flat_map print_attribute t.attributes ++ (t.blanks ++ (print_tag_end t.closed ++ rest)))) ≡ Some (start (record { name = t.name; attributes = map written t.attributes; closed = t.closed }), rest)
unfolding start_at
start_at_again t rest is =
    let last : List ℕ = print_tag_end t.closed ++ rest in
    let no_blank : Stops is_blank (print_tag_end t.closed ++ rest) = tag_end_stops is_blank t.closed rest refl refl in
    let no_name : Stops is_name_byte (print_tag_end t.closed ++ rest) = tag_end_stops is_name_byte t.closed rest refl refl in
    rw (
      run_again is_name_byte t.name (flat_map print_attribute t.attributes ++ (t.blanks ++ last)) is.name (after_name t.attributes (t.blanks ++ last) is.attributes (stops_behind is_blank is_name_byte t.blanks last blank_no_name is.blanks no_name)),
      attributes_again t.attributes t.blanks last is.attributes is.blanks no_blank no_name,
      skip_again is_blank t.blanks last is.blanks no_blank,
      tag_end_again t.closed rest,
    ) refl

markup_is_start : (name more : List ℕ) → IsSome is_name_byte name → markup_at (name ++ more) ≡ start_at (name ++ more)
unfolding markup_at
markup_is_start [] more some = absurd (omega (arith, some.some))
markup_is_start (b ∷ name) more some =
    let first : is_name_byte b ≡ true = pass_head is_name_byte b name some.pass in
    rw (name_is_no 47 b refl first, name_is_no 33 b refl first, name_is_no 63 b refl first) refl

start_again : (t : WrittenTag) (rest : List ℕ) → IsTag t → item_at (print_tag t ++ rest) ≡ Some (start (record { name = t.name; attributes = map written t.attributes; closed = t.closed }), rest)
unfolding item_at
start_again t rest is =
    let more : List ℕ = flat_map print_attribute t.attributes ++ (t.blanks ++ (print_tag_end t.closed ++ rest)) in
    ap item_at (print_tag-append t rest) ∙ markup_is_start t.name more is.name ∙ start_at_again t rest is

finish_again : (name blanks rest : List ℕ) → IsSome is_name_byte name → AllPass is_blank blanks → finish_at ((name ++ (blanks ++ 62 ∷ [])) ++ rest) ≡ Some (finish name, rest)
unfolding finish_at
finish_again name blanks rest some pass =
    rw (
      three name blanks (62 ∷ []) rest,
      run_again is_name_byte name (blanks ++ 62 ∷ rest) some (stops_behind is_blank is_name_byte blanks (62 ∷ rest) blank_no_name pass refl),
      skip_again is_blank blanks (62 ∷ rest) pass refl,
      strip_prefix_again (62 ∷ []) rest,
    ) refl

-- the first two dashes are those after the comment
no_dashes : (b : ℕ) (t rest : List ℕ) → IsRemark (b ∷ t) → strip_prefix (45 ∷ 45 ∷ []) (b ∷ (t ++ 45 ∷ 45 ∷ rest)) ≡ None
no_dashes b t rest is = none (strip_prefix (45 ∷ 45 ∷ []) (b ∷ (t ++ 45 ∷ 45 ∷ rest))) refl
  where
    two : (t more : List ℕ) → IsRemark (b ∷ t) → b ∷ (t ++ 45 ∷ 45 ∷ rest) ≡ 45 ∷ 45 ∷ more → ⊥
    two [] more is same = is (let head : b ≡ 45 = cc in head)
    two (c ∷ t) more is same = is.0 (let one : b ≡ 45 = cc in let other : c ≡ 45 = cc in (one, other))

    none : (o : Option (List ℕ)) → strip_prefix (45 ∷ 45 ∷ []) (b ∷ (t ++ 45 ∷ 45 ∷ rest)) ≡ o → strip_prefix (45 ∷ 45 ∷ []) (b ∷ (t ++ 45 ∷ 45 ∷ rest)) ≡ None
    none None found = found
    none (Some more) found = absurd (two t more is (strip_prefix_takes (45 ∷ 45 ∷ []) (b ∷ (t ++ 45 ∷ 45 ∷ rest)) more found))

remark_tail : (b : ℕ) (t : List ℕ) → IsRemark (b ∷ t) → IsRemark t
remark_tail b [] is = tt
remark_tail b (c ∷ t) is = is.1

dashes_here : (rest : List ℕ) → dashes_at (45 ∷ 45 ∷ rest) ≡ Some ([], rest)
unfolding dashes_at strip_prefix
dashes_here rest = refl

dashes_again : (t rest : List ℕ) → IsRemark t → dashes_at (t ++ 45 ∷ 45 ∷ rest) ≡ Some (t, rest)
unfolding dashes_at
dashes_again [] rest is = dashes_here rest
dashes_again (b ∷ t) rest is = rw (no_dashes b t rest is, dashes_at, dashes_again t rest (remark_tail b t is)) refl

comment_again : (t rest : List ℕ) → IsRemark t → comment_at (45 ∷ 45 ∷ ((t ++ 45 ∷ 45 ∷ 62 ∷ []) ++ rest)) ≡ Some (comment t, rest)
unfolding comment_at
comment_again t rest is =
    rw (append_assoc t (45 ∷ 45 ∷ 62 ∷ []) rest, strip_prefix_again (45 ∷ 45 ∷ []) (t ++ 45 ∷ 45 ∷ 62 ∷ rest), dashes_again t (62 ∷ rest) is, strip_prefix_again (62 ∷ []) rest) refl

declaration_again : (parts : List WrittenAttribute) (blanks rest : List ℕ) → AllByRecursion IsAttribute parts → declares (map written parts) ≡ true → AllPass is_blank blanks → declaration_at (120 ∷ 109 ∷ 108 ∷ ((flat_map print_attribute parts ++ (blanks ++ 63 ∷ 62 ∷ [])) ++ rest)) ≡ Some (declaration, rest)
unfolding declaration_at
declaration_again parts blanks rest each says pass =
    rw (
      three (flat_map print_attribute parts) blanks (63 ∷ 62 ∷ []) rest,
      strip_prefix_again (120 ∷ 109 ∷ 108 ∷ []) (flat_map print_attribute parts ++ (blanks ++ 63 ∷ 62 ∷ rest)),
      attributes_again parts blanks (63 ∷ 62 ∷ rest) each pass refl refl,
      skip_again is_blank blanks (63 ∷ 62 ∷ rest) pass refl,
      strip_prefix_again (63 ∷ 62 ∷ []) rest,
      says,
    ) refl

text_again : (bytes rest : List ℕ) → IsSome is_text_byte bytes → Stops is_text_byte rest → item_at (bytes ++ rest) ≡ Some (run bytes, rest)
unfolding item_at
text_again [] rest some stops = absurd (omega (arith, some.some))
text_again (b ∷ bytes) rest some stops =
    let other : (b == 60) ≡ false = not-true (b == 60) (pass_head is_text_byte b bytes some.pass) in
    cond-false (b == 60) (markup_at (bytes ++ rest)) (Some (run (take_while is_text_byte (b ∷ (bytes ++ rest))), skip is_text_byte (b ∷ (bytes ++ rest)))) other
    ∙ cut (take_again is_text_byte (b ∷ bytes) rest some.pass stops) (skip_again is_text_byte (b ∷ bytes) rest some.pass stops)
  where
    cut : {xs ys zs ws : List ℕ} → xs ≡ ys → zs ≡ ws → ◌≡◌ {A = Option (Item × List ℕ)} (Some (run xs, zs)) (Some (run ys, ws))
    cut e f = cc

-- a written item is cut again
pub item_cut_again : (w : WrittenItem) (rest : List ℕ) → IsItem w rest → Again w rest
unfolding IsItem print_item meaning item_at markup_at
item_cut_again (xml_declaration parts blanks) rest is = declaration_again parts blanks rest is.0 is.1 is.2
item_cut_again (remark bytes) rest is = comment_again bytes rest is
item_cut_again (start_tag t) rest is = start_again t rest is
item_cut_again (end_tag name blanks) rest is = finish_again name blanks rest is.0 is.1
item_cut_again (text bytes) rest is = text_again bytes rest is.0 is.1
