-- Written values, attributes and lists of elements are read back.
use Rattle.std.proofs.Common.{◌≡◌, ℕ, zero, suc, ◌+◌, ◌-◌, ◌<◌, ◌⊎◌, inl, inr, List, [], ◌∷◌, ◌++◌, Bool, true, false, cond, length, get_or, arith, refl, sym, ap, ◌∙◌, append-nil, length-append}
use Rattle.std.specs.Prelude.{Option, Some, None, IsTrue, map, option_map, slice_index, ◌==◌, codes, bytes_eq, replicate}
use Rattle.std.specs.List.{find, list_all, list_any, AllByRecursion, Contains}
use Rattle.std.proofs.lemmas.Bool.{false≢true, ne_eqb}
use Rattle.std.proofs.lemmas.Bool.Decides.{nat_tests}
use Rattle.std.proofs.lemmas.List.{get_or-append_right, get_or-replicate, length-replicate}
use Rattle.std.proofs.lemmas.Option.{cond_some}
use Rattle.as4_envelope.specs.declared.tree.Attribute.{Attribute}
use Rattle.as4_envelope.specs.declared.tree.Element.{Element}
use Rattle.as4_envelope.specs.declared.tree.Element.TheOpen.{Element-F}
use Rattle.as4_envelope.specs.declared.tree.Element.TheViews.{out-Element, out-roll-Element}
use Rattle.as4_values.specs.Stamp.{IsStamp, fits_byte, fraction_form, zone_forms}
use Rattle.as4_values.specs.Texts.{IsTrimmed, IsText, HasCore}
use Rattle.byte_forms.specs.Classes.{is_blank}
use Rattle.as4_values.specs.Word.{IsWord, allows}
use Rattle.as4_values.specs.declared.word.Word.{Word}
use Rattle.as4_values.specs.declared.word.Word.TheVariants.{Identifier, ErrorCode}
use Rattle.header_reader.proofs.ValueLemmas.{core_is_trimmed, text_read, word_read, stamp_read}
use Rattle.header_reader.specs.Elements.{is_named, named, may_stand, holds_only, at_most_one, read_one, read_if_some, child, optional_child, children, leaf, each, children_of, text_in, is_plain, attribute_of}
use Rattle.message_model.specs.UnitTree.{node, leaf as leaf_tree}
use Rattle.as4_envelope.specs.Tree.{ebms}
use Rattle.header_reader.specs.Names.{element_name}
use Rattle.header_reader.specs.declared.names.AttributeName.{AttributeName}
use Rattle.byte_forms.specs.Cuts.{◌>>=◌}
use Rattle.header_reader.specs.Values.{is_word, read_by, text_of, stamp_of, optional}
use Rattle.byte_forms.specs.Trimmed.{trimmed}
use Rattle.header_reader.specs.declared.names.ElementName.{ElementName}

-- values

whole_core : (bytes : List ℕ) → IsTrimmed bytes → HasCore bytes bytes 0
whole_core bytes trimmed = ([], [], λ k d above below. absurd (omega arith), λ k d above below. absurd (omega arith), trimmed, sym (append-nil bytes), refl)

pub text_again : (text : List ℕ) → IsText text → text_of text ≡ Some text
text_again text is = text_read text text (is, (0, whole_core text is.trimmed))

graphic_stays : (word : Word) (b : ℕ) → IsTrue (allows word b) → is_blank b ≡ false
graphic_stays Identifier b is = grind (arith, nat_tests)
graphic_stays ErrorCode b is = grind (arith, nat_tests)

word_trimmed : (word : Word) (bytes : List ℕ) → IsWord word bytes → IsTrimmed bytes
word_trimmed word bytes is =
    let some = is.some in
    record {
      some = is.some;
      first = graphic_stays word (slice_index bytes 0) (is.each 0 0 (omega arith) (omega arith));
      last = graphic_stays word (slice_index bytes (length bytes - 1)) (is.each (length bytes - 1) 0 (omega arith) (omega arith));
    }

pub word_again : (word : Word) (bytes : List ℕ) → IsWord word bytes → read_by (is_word word) bytes ≡ Some bytes
word_again word bytes is =
    let same : bytes ≡ trimmed bytes = sym (core_is_trimmed bytes bytes 0 (whole_core bytes (word_trimmed word bytes is))) in
    word_read word bytes bytes bytes same (refl, is)

-- a value that is read unchanged isn't blank

not_empty : (test : List ℕ → Bool) (bytes : List ℕ) → test [] ≡ false → test bytes ≡ true → (length bytes == 0) ≡ false
not_empty test [] empty passes = absurd (false≢true (sym empty ∙ passes))
not_empty test (b ∷ bytes) empty passes = ne_eqb (length (b ∷ bytes)) 0 (λ e. omega (arith, e))

passed_by : (test : List ℕ → Bool) (bytes value : List ℕ) → read_by test bytes ≡ Some value → (test (trimmed bytes) ≡ true) × (trimmed bytes ≡ value)
unfolding read_by
passed_by test bytes value read = cond_some (test (trimmed bytes)) (trimmed bytes) value read

pub optional_again : (test : List ℕ → Bool) (bytes : List ℕ) → test [] ≡ false → read_by test bytes ≡ Some bytes → optional (read_by test) bytes ≡ Some (Some bytes)
unfolding optional
optional_again test bytes empty read =
    let passes = passed_by test bytes bytes read in
    let some : (length (trimmed bytes) == 0) ≡ false = not_empty test (trimmed bytes) empty passes.0 in
    rw (some, read) refl

-- elements

pub named_node : (name : ElementName) (local text : List ℕ) (attributes : List Attribute) (children : List Element)
    → is_named name (node ebms local attributes text children) ≡ bytes_eq local (element_name name)
unfolding is_named
named_node name local text attributes children = rw out-roll-Element refl

pub stands_node : (names : List ElementName) (local text : List ℕ) (attributes : List Attribute) (children : List Element)
    → may_stand names (node ebms local attributes text children) ≡ list_any (λ name. bytes_eq local (element_name name)) names
unfolding may_stand
stands_node names local text attributes children = rw out-roll-Element refl

pub view_node : (space local text : List ℕ) (attributes : List Attribute) (within : List Element)
    → out-Element (node space local attributes text within) ≡ record { space = space; local = local; attributes = attributes; text = text; children = within }
view_node space local text attributes within = out-roll-Element (record { space = space; local = local; attributes = attributes; text = text; children = within })

pub within_node : (space local text : List ℕ) (attributes : List Attribute) (within : List Element) → children_of (node space local attributes text within) ≡ within
within_node space local text attributes within =
    let kids : Element-F Element → List Element = λ v. v.children in ap kids (view_node space local text attributes within)

pub text_node : (space local text : List ℕ) (attributes : List Attribute) (within : List Element) → text_in (node space local attributes text within) ≡ text
text_node space local text attributes within =
    let words : Element-F Element → List ℕ = λ v. v.text in ap words (view_node space local text attributes within)

pub holds_node : (names : List ElementName) (local text : List ℕ) (attributes : List Attribute) (within : List Element)
    → holds_only names (node ebms local attributes text within) ≡ list_all (may_stand names) within
unfolding holds_only
holds_node names local text attributes within = ap (list_all (may_stand names)) (within_node ebms local text attributes within)

pub leaf_node : {X : Type 0} (reading : List ℕ → Option X) (local text : List ℕ) (attributes : List Attribute)
    → leaf reading (leaf_tree local attributes text) ≡ reading text
unfolding leaf holds_only
leaf_node {X} reading local text attributes =
    let held : List Element → Option X = λ es. cond (list_all (may_stand []) es) (reading (text_in (leaf_tree local attributes text))) None in
    ap held (within_node ebms local text attributes []) ∙ ap reading (text_node ebms local text attributes [])

pub child_node : {X : Type 0} (reading : Element → Option X) (name : ElementName) (local text : List ℕ) (attributes : List Attribute) (within : List Element)
    → child reading name (node ebms local attributes text within) ≡ (at_most_one (named name within) >>= read_one reading)
unfolding child
child_node reading name local text attributes within =
    ap (λ es. at_most_one (named name es) >>= read_one reading) (within_node ebms local text attributes within)

pub optional_node : {X : Type 0} (reading : Element → Option X) (name : ElementName) (local text : List ℕ) (attributes : List Attribute) (within : List Element)
    → optional_child reading name (node ebms local attributes text within) ≡ (at_most_one (named name within) >>= read_if_some reading)
unfolding optional_child
optional_node reading name local text attributes within =
    ap (λ es. at_most_one (named name es) >>= read_if_some reading) (within_node ebms local text attributes within)

pub children_node : {X : Type 0} (reading : Element → Option X) (name : ElementName) (local text : List ℕ) (attributes : List Attribute) (within : List Element)
    → children reading name (node ebms local attributes text within) ≡ each reading (named name within)
unfolding children
children_node reading name local text attributes within = ap (λ es. each reading (named name es)) (within_node ebms local text attributes within)

pub value_node : (label : AttributeName) (space local text : List ℕ) (attributes : List Attribute) (children : List Element)
    → attribute_of label (node space local attributes text children) ≡ option_map (λ a. a.value) (find (is_plain label) attributes)
unfolding attribute_of
value_node label space local text attributes children = rw out-roll-Element refl

-- lists of elements

pub each_again : {X : Type 0} (reading : Element → Option X) (tree : X → Element) (xs : List X) → AllByRecursion (λ x. reading (tree x) ≡ Some x) xs
    → each reading (map tree xs) ≡ Some xs
each_again reading tree [] is = refl
each_again reading tree (x ∷ xs) is = rw (is.0, each_again reading tree xs is.1) refl

pub named_all : {X : Type 0} (name : ElementName) (tree : X → Element) (xs : List X) → ((x : X) → is_named name (tree x) ≡ true) → named name (map tree xs) ≡ map tree xs
named_all name tree [] is = refl
named_all name tree (x ∷ xs) is = rw (is x, named_all name tree xs is) refl

pub named_none : {X : Type 0} (name : ElementName) (tree : X → Element) (xs : List X) → ((x : X) → is_named name (tree x) ≡ false) → named name (map tree xs) ≡ []
named_none name tree [] is = refl
named_none name tree (x ∷ xs) is = rw (is x, named_none name tree xs is) refl

pub all_pass : {X : Type 0} (test : Element → Bool) (tree : X → Element) (xs : List X) → ((x : X) → test (tree x) ≡ true) → list_all test (map tree xs) ≡ true
all_pass test tree [] is = refl
all_pass test tree (x ∷ xs) is = rw (is x, all_pass test tree xs is) refl

-- a stamp begins with a digit, and ends with one or with `Z`

abbrev IsMark : ℕ → Type 0
IsMark b = (b ≡ 48) ⊎ (b ≡ 90)

last_in : List ℕ → ℕ
last_in bytes = slice_index bytes (length bytes - 1)

back_place : (n m : ℕ) → 0 < m → n + m - 1 - n ≡ m - 1
back_place n m some = omega arith

last_behind : (front back : List ℕ) → 0 < length back → last_in (front ++ back) ≡ last_in back
unfolding last_in
last_behind front back some =
    let whole : length (front ++ back) ≡ length front + length back = length-append front back in
    get_or-append_right front back (length front) (length (front ++ back) - 1) 0 refl (omega (arith, whole))
    ∙ ap (λ k. get_or back k 0) (ap (λ n. n - 1 - length front) whole ∙ back_place (length front) (length back) some)

last_zero : (front : List ℕ) (n : ℕ) → IsMark (last_in (front ++ replicate (suc n) 48))
unfolding last_in
last_zero front n =
    let some : 0 < length (replicate (suc n) 48) = omega (arith, length-replicate {A = ℕ} (suc n) 48) in
    let below : length (replicate (suc n) 48) - 1 < suc n = omega (arith, length-replicate {A = ℕ} (suc n) 48) in
    inl (last_behind front (replicate (suc n) 48) some ∙ get_or-replicate (suc n) (length (replicate (suc n) 48) - 1) 48 0 below)

-- the form without its zone
last_fraction : (places : ℕ) → IsMark (last_in (codes "0000-00-00T00:00:00" ++ fraction_form places))
unfolding last_in
last_fraction zero = inl refl
last_fraction (suc places) = let marked = last_zero (codes "0000-00-00T00:00:00" ++ codes ".") places in marked

last_zone : (front zone : List ℕ) → IsMark (last_in front) → Contains zone_forms zone → IsMark (last_in (front ++ zone))
unfolding last_in
last_zone front zone marked (zero, within, same) = rw (← same, append-nil) marked
last_zone front zone marked (suc zero, within, same) = rw (← same) (inr (last_behind front (codes "Z") (omega arith)))
last_zone front zone marked (suc (suc zero), within, same) = rw (← same) (inl (last_behind front (codes "+00:00") (omega arith)))
last_zone front zone marked (suc (suc (suc zero)), within, same) = rw (← same) (inl (last_behind front (codes "-00:00") (omega arith)))
last_zone front zone marked (suc (suc (suc (suc k))), within, same) = absurd (omega arith)

mark_stays : (form b : ℕ) → IsMark form → IsTrue (fits_byte form b) → is_blank b ≡ false
unfolding fits_byte
mark_stays form b (inl digit) fits = grind (arith, nat_tests)
mark_stays form b (inr zulu) fits = grind (arith, nat_tests)

stamp_trimmed : (text : List ℕ) → IsStamp text → IsTrimmed text
unfolding last_in
stamp_trimmed text is =
    let form : List ℕ = is.0.0 in
    let kind = is.0.1 in
    let same : length form ≡ length text = is.0.2 in
    let marked : IsMark (last_in form) = rw kind.4 (last_zone (codes "0000-00-00T00:00:00" ++ fraction_form kind.0) kind.1 (last_fraction kind.0) kind.3) in
    let first : slice_index form 0 ≡ 48 = rw kind.4 refl in
    let long : length form ≡ length (codes "0000-00-00T00:00:00") + length (fraction_form kind.0) + length kind.1 =
    ap length kind.4 ∙ length-append (codes "0000-00-00T00:00:00" ++ fraction_form kind.0) kind.1
    ∙ ap (λ n. n + length kind.1) (length-append (codes "0000-00-00T00:00:00") (fraction_form kind.0)) in
    let some : 0 < length text = omega (arith, same, long) in
    let last_byte : IsTrue (fits_byte (slice_index form (length text - 1)) (slice_index text (length text - 1))) = is.0.3.each (length text - 1) (omega arith) in
    record {
      some = some;
      first = mark_stays (slice_index form 0) (slice_index text 0) (inl first) (is.0.3.each 0 some);
      last = mark_stays (slice_index form (length form - 1)) (slice_index text (length text - 1)) marked (rw same last_byte);
    }

pub stamp_again : (text : List ℕ) → IsStamp text → stamp_of text ≡ Some text
stamp_again text is =
    let same : text ≡ trimmed text = sym (core_is_trimmed text text 0 (whole_core text (stamp_trimmed text is))) in
    stamp_read text text text same (refl, is)
