-- The most bytes of attributes and elements. An escape has at most six bytes, in place of one.
use Rattle.std.proofs.Common.{◌≡◌, ℕ, ◌+◌, ◌*◌, ◌≤◌, List, [], ◌∷◌, length, get_or, length-append, arith}
use Rattle.std.specs.Prelude.{Option, Some, None, IfSome, unwrap_or}
use Rattle.std.specs.List.{All, flat_map}
use Rattle.std.proofs.lemmas.Bool.Decides.{nat_tests}
use Rattle.std.proofs.lemmas.List.Concat.{length-flat_map}
use Rattle.std.proofs.lemmas.List.Sums.{sum_by-le}
use Rattle.as4_envelope.specs.Markup.{escape_of, escaped, tag_start, tag_end, end_tag, attribute, element, text_element, optional_attribute, optional_element, listed}

-- a text of at most this many bytes, if there is one
abbrev pub IsWithin : ℕ → Option (List ℕ) → Type 0
IsWithin most text = IfSome text (λ bytes. length bytes ≤ most)

escape_within : (b : ℕ) → length (escape_of b) ≤ 6
escape_within b = grind (arith, nat_tests)

pub items_within : {X : Type 0} (text : X → List ℕ) (items : List X) (most : ℕ) → All (λ x. length (text x) ≤ most) items
    → length (flat_map text items) ≤ length items * most
items_within text items most each = rw (length-flat_map text items) (sum_by-le (λ x. length (text x)) most items each)

pub escaped_within : (bytes : List ℕ) → length (escaped bytes) ≤ length bytes * 6
unfolding escaped
escaped_within bytes = items_within escape_of bytes 6 (λ k d within. escape_within (get_or bytes k d))

pub length-element : (name attributes content : List ℕ) → length (element name attributes content) ≡ 2 * length name + length attributes + length content + 5
unfolding tag_start tag_end end_tag
length-element name attributes content = simp length-append (omega arith)

pub text_element_within : (name text : List ℕ) → length (text_element name text) ≤ 2 * length name + length text * 6 + 5
unfolding text_element
text_element_within name text = omega (arith, length-element name [] (escaped text), escaped_within text)

pub attribute_within : (name value : List ℕ) → length (attribute name value) ≤ length name + length value * 6 + 4
unfolding attribute
attribute_within name value = simp length-append (omega (arith, escaped_within value))

pub optional_attribute_within : (name : List ℕ) (value : Option (List ℕ)) (most : ℕ) → IsWithin most value
    → length (optional_attribute name value) ≤ length name + most * 6 + 4
unfolding optional_attribute
optional_attribute_within name None most within = omega arith
optional_attribute_within name (Some value) most within = omega (arith, attribute_within name value)

pub optional_element_within : (name : List ℕ) (text : Option (List ℕ)) (most : ℕ) → IsWithin most text
    → length (optional_element name text) ≤ 2 * length name + most * 6 + 5
unfolding optional_element
optional_element_within name None most within = omega arith
optional_element_within name (Some text) most within = omega (arith, text_element_within name text)

-- a text that is empty if there is none
pub unwrapped_within : (text : Option (List ℕ)) (most : ℕ) → IsWithin most text → length (unwrap_or text []) ≤ most
unwrapped_within None most within = omega arith
unwrapped_within (Some text) most within = within

pub listed_within : {X : Type 0} (name : List ℕ) (text : X → List ℕ) (items : List X) (most : ℕ) → All (λ x. length (text x) ≤ most) items
    → length (listed name text items) ≤ 2 * length name + length items * most + 5
unfolding listed
listed_within name text [] most each = omega arith
listed_within name text (first ∷ others) most each =
    omega (arith, length-element name [] (flat_map text (first ∷ others)), items_within text (first ∷ others) most each)
