-- What is read of an element is no longer than the element is large.
use Rattle.std.proofs.Common.{◌≡◌, ℕ, ◌+◌, ◌-◌, ◌*◌, ◌≤◌, Bool, List, [], ◌∷◌, Option, Some, None, length, length-append, length-drop, drop, arith, refl, ap, ◌∙◌}
use Rattle.std.specs.Prelude.{◌==◌, IfSome}
use Rattle.std.specs.List.{sum_by, find, flat_map, prefix_len}
use Rattle.std.proofs.Math.Nat.{mul-le-mul_left}
use Rattle.std.proofs.lemmas.List.{length-take}
use Rattle.std.proofs.lemmas.List.Concat.{length-flat_map}
use Rattle.std.proofs.lemmas.List.Sums.{sum_by-cons}
use Rattle.std.proofs.lemmas.Option.{same_Some}
use Rattle.as4_effects.proofs.LengthLemmas.{number_length}
use Rattle.as4_effects.specs.Bodies.{number_body, text_body, option_body, list_body}
use Rattle.as4_envelope.specs.declared.tree.Attribute.{Attribute}
use Rattle.as4_envelope.specs.declared.tree.Element.{Element}
use Rattle.as4_envelope.specs.declared.tree.Element.TheFolds.{fold_out-Element}
use Rattle.as4_envelope.specs.declared.tree.Element.TheViews.{out-Element}
use Rattle.byte_forms.specs.Classes.{is_blank}
use Rattle.byte_forms.specs.Cuts.{◌>>=◌}
use Rattle.byte_forms.specs.Trimmed.{end_of, trimmed}
use Rattle.byte_forms.proofs.CutLemmas.{bind_some}
use Rattle.header_reader.specs.Elements.{children_of, text_in, is_plain, attribute_of, optional_value, optional_attribute, attribute, is_named, named, holds_only, at_most_one, read_one, read_if_some, child, optional_child, each, children, holding, leaf}
use Rattle.header_reader.specs.Values.{read_by, optional}
use Rattle.header_reader.specs.declared.names.AttributeName.{AttributeName}
use Rattle.header_reader.specs.declared.names.ElementName.{ElementName}
use Rattle.coming_laws.specs.Sizes.{value_size, size_step, size}
use Rattle.coming_laws.proofs.ChoiceLemmas.{either, only_first, applied}
use Rattle.coming_laws.proofs.SumLemmas.{sum_by-map, sum_by-filter, size_found}

-- the bytes of a text, of an optional text and of a list in an effect
pub text_length : (bytes : List ℕ) → length (text_body bytes) ≡ length bytes + 4
unfolding text_body
text_length bytes = length-append (number_body 4 (length bytes)) bytes ∙ omega (arith, number_length 4 (length bytes))

abbrev pub option_length : Option (List ℕ) → ℕ
option_length text = length (option_body text_body text)

pub list_length : {X : Type 0} (body : X → List ℕ) (xs : List X) → length (list_body body xs) ≡ sum_by (λ x. length (body x)) xs + 4
list_length body xs =
    omega (arith, length-append (number_body 4 (length xs)) (flat_map body xs), number_length 4 (length xs), length-flat_map body xs)

-- the parts of an element

element_size : (e : Element) → size e ≡ length (text_in e) + sum_by value_size (out-Element e).attributes + sum_by size (children_of e)
unfolding size
element_size e =
    fold_out-Element ℕ size_step e
    ∙ ap (λ (n : ℕ). length (text_in e) + sum_by value_size (out-Element e).attributes + n) (sum_by-map size (λ n. n) (children_of e))

pub children_size : (e : Element) → sum_by size (children_of e) ≤ size e
children_size e = omega (arith, element_size e)

-- values

trimmed_length : (bytes : List ℕ) → length (trimmed bytes) ≤ length bytes
unfolding trimmed
trimmed_length bytes =
    let start : ℕ = prefix_len is_blank bytes in
    let end : ℕ = end_of bytes (length bytes) in
    omega (arith, length-take (end - start) (drop start bytes), length-drop start bytes)

value_length : (test : List ℕ → Bool) (bytes text : List ℕ) → read_by test bytes ≡ Some text → length text ≤ length bytes
unfolding read_by
value_length test bytes text e =
    omega (arith, trimmed_length bytes, ap (λ (l : List ℕ). length l) (same_Some (trimmed bytes) text (only_first (test (trimmed bytes)) _ text e)))

optional_length : (test : List ℕ → Bool) (bytes : List ℕ) (text : Option (List ℕ)) → optional (read_by test) bytes ≡ Some text → option_length text ≤ length bytes + 5
unfolding optional
optional_length test bytes text e =
    either (length (trimmed bytes) == 0) _ _ (Some text) e (λ none. omega (arith, ap option_length (same_Some None text none)))
    (λ some. applied Some (read_by test bytes) text some λ read here is.
    omega (arith, ap option_length is, text_length read, value_length test bytes read here))

-- texts of elements

held : {X : Type 0} (names : List ElementName) (e : Element) (read : Option X) (x : X) → holding names e read ≡ Some x → read ≡ Some x
held names e read x is = only_first (holds_only names e) read x is

pub leaf_size : (test : List ℕ → Bool) (e : Element) (text : List ℕ) → leaf (read_by test) e ≡ Some text → length (text_body text) ≤ size e + 4
unfolding leaf
leaf_size test e text is =
    omega (arith, text_length text, element_size e, value_length test (text_in e) text (held [] e _ text is))

pub optional_leaf_size : (test : List ℕ → Bool) (e : Element) (text : Option (List ℕ)) → leaf (optional (read_by test)) e ≡ Some text → option_length text ≤ size e + 5
unfolding leaf
optional_leaf_size test e text is = omega (arith, element_size e, optional_length test (text_in e) text (held [] e _ text is))

-- attributes

found_size : (name : AttributeName) (e : Element) (value : List ℕ) → attribute_of name e ≡ Some value → length value ≤ size e
unfolding attribute_of
found_size name e value is =
    applied (λ (a : Attribute). a.value) (find (is_plain name) (out-Element e).attributes) value is λ a found same.
    omega (arith, element_size e, size_found value_size (is_plain name) (out-Element e).attributes a found, ap (λ (l : List ℕ). length l) same)

pub attribute_size : (test : List ℕ → Bool) (name : AttributeName) (e : Element) (text : List ℕ) → attribute (read_by test) name e ≡ Some text
    → length (text_body text) ≤ size e + 4
unfolding attribute
attribute_size test name e text is =
    bind_some (attribute_of name e) _ text is λ value found read.
    omega (arith, text_length text, found_size name e value found, value_length test value text read)

value_size_by : (test : List ℕ → Bool) (e : Element) (value : Option (List ℕ)) (text : Option (List ℕ)) → ((bytes : List ℕ) → value ≡ Some bytes → length bytes ≤ size e)
    → optional_value (read_by test) value ≡ Some text → option_length text ≤ size e + 5
value_size_by test e None text within is = omega (arith, ap option_length (same_Some None text is))
value_size_by test e (Some bytes) text within is = omega (arith, within bytes refl, optional_length test bytes text is)

pub optional_attribute_size : (test : List ℕ → Bool) (name : AttributeName) (e : Element) (text : Option (List ℕ))
    → optional_attribute (read_by test) name e ≡ Some text → option_length text ≤ size e + 5
unfolding optional_attribute
optional_attribute_size test name e text is = value_size_by test e (attribute_of name e) text (found_size name e) is

-- children

-- an element within another that is read as this value
pub record Within {X : Type 0} (e : Element) (reading : Element → Option X) (x : X) : Type 0 where
  pub inner : Element
  pub smaller : size inner ≤ size e
  pub read : reading inner ≡ Some x

named_size : (name : ElementName) (e : Element) → sum_by size (named name (children_of e)) ≤ size e
named_size name e = omega (arith, sum_by-filter size (is_named name) (children_of e), children_size e)

one_of : {X : Type 0} (reading : Element → Option X) (e : Element) (es : List Element) (x : X) → sum_by size es ≤ size e
    → (at_most_one es >>= read_one reading) ≡ Some x → Within e reading x
one_of reading e [] x within is = absurd cc
one_of reading e (inner ∷ []) x within is = record { inner = inner; smaller = omega (arith, sum_by-cons size inner []); read = is }
one_of reading e (inner ∷ other ∷ others) x within is = absurd cc

pub child_within : {X : Type 0} (reading : Element → Option X) (name : ElementName) (e : Element) (x : X) → child reading name e ≡ Some x → Within e reading x
unfolding child
child_within reading name e x is = one_of reading e (named name (children_of e)) x (named_size name e) is

one_or_none : {X : Type 0} (reading : Element → Option X) (e : Element) (es : List Element) (x : Option X) → sum_by size es ≤ size e
    → (at_most_one es >>= read_if_some reading) ≡ Some x → IfSome x (Within e reading)
one_or_none reading e [] None within is = tt
one_or_none reading e [] (Some x) within is = absurd cc
one_or_none reading e (inner ∷ []) None within is = tt
one_or_none reading e (inner ∷ []) (Some x) within is =
    applied Some (reading inner) (Some x) is λ y read same.
    record { inner = inner; smaller = omega (arith, sum_by-cons size inner []); read = read ∙ same }
one_or_none reading e (inner ∷ other ∷ others) x within is = absurd cc

pub optional_child_within : {X : Type 0} (reading : Element → Option X) (name : ElementName) (e : Element) (x : Option X) → optional_child reading name e ≡ Some x
    → IfSome x (Within e reading)
unfolding optional_child
optional_child_within reading name e x is = one_or_none reading e (named name (children_of e)) x (named_size name e) is

-- a bound on the bytes that are read of each element: a factor for each byte of the element, and a constant
abbrev pub IsWithin : {X : Type 0} → (Element → Option X) → (X → ℕ) → ℕ → ℕ → Type 0
IsWithin {X} reading len factor more = (e : Element) (x : X) → reading e ≡ Some x → len x ≤ factor * size e + more

each_size : {X : Type 0} (reading : Element → Option X) (len : X → ℕ) (factor more : ℕ) → IsWithin reading len factor more → (es : List Element) (xs : List X)
    → each reading es ≡ Some xs → sum_by len xs ≤ factor * sum_by size es + length xs * more
each_size reading len factor more within [] xs is = let none = same_Some [] xs is in rw (← none) (omega arith)
each_size reading len factor more within (e ∷ es) xs is =
    bind_some (reading e) _ xs is λ x here rest.
    bind_some (each reading es) _ xs rest λ others later both.
    let same = same_Some (x ∷ others) xs both in
    rw (← same, sum_by-cons len x others, sum_by-cons size e es)
    (omega (arith, within e x here, each_size reading len factor more within es others later))

pub children_within : {X : Type 0} (reading : Element → Option X) (len : X → ℕ) (factor more : ℕ) → IsWithin reading len factor more → (name : ElementName) (e : Element) (xs : List X)
    → children reading name e ≡ Some xs → sum_by len xs ≤ factor * size e + length xs * more
unfolding children
children_within reading len factor more within name e xs is =
    omega (
      arith,
      each_size reading len factor more within (named name (children_of e)) xs is,
      mul-le-mul_left factor (named_size name e),
    )
