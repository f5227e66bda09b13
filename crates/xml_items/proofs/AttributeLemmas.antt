-- Attributes, one after another, as a loop cuts them.
use Rattle.std.proofs.Common.{◌≡◌, ℕ, zero, suc, ◌<◌, ◌≤◌, List, [], ◌∷◌, ◌++◌, length, Some, None, refl, sym, ap, ◌∙◌, arith, inl, inr, append_assoc, append-nil, length-append}
use Rattle.xml_items.specs.Items.{Written}
use Rattle.xml_items.specs.Cutting.{attribute_at, attributes_within, attributes_at}
use Rattle.xml_items.specs.Grammar.{WrittenAttribute, print_attribute, IsAttribute}
use Rattle.byte_forms.proofs.CutLemmas.{cases_option}
use Rattle.xml_items.proofs.TakenLemmas.{attribute_takes}

-- no attribute is empty
pub length-print_attribute : (a : WrittenAttribute) → IsAttribute a → 0 < length (print_attribute a)
unfolding print_attribute
length-print_attribute a is = omega (arith, length-append a.blanks (a.name ++ (a.left ++ 61 ∷ (a.right ++ a.quote ∷ (a.value ++ a.quote ∷ [])))), is.blanks.some)

pub attribute_shortens : (bytes : List ℕ) (x : Written × List ℕ) → attribute_at bytes ≡ Some x → length x.1 < length bytes
attribute_shortens bytes x cut =
    let taken = attribute_takes bytes x cut in
    omega (arith, length-print_attribute taken.0 taken.1, ap length taken.3, length-append (print_attribute taken.0) x.1)

none_within : (n : ℕ) (bytes : List ℕ) → attribute_at bytes ≡ None → attributes_within n bytes ≡ ([], bytes)
unfolding attributes_within
none_within zero bytes none = refl
none_within (suc n) bytes none = rw (none, attributes_within) refl

-- a larger limit changes nothing
enough : (n m : ℕ) (bytes : List ℕ) → length bytes ≤ n → length bytes ≤ m → attributes_within n bytes ≡ attributes_within m bytes
unfolding attributes_within
enough zero m bytes few_n few_m = elim (cases_option (attribute_at bytes)) [
  | inl none ↦ sym (none_within m bytes none)
  | inr some ↦ absurd (omega (arith, attribute_shortens bytes some.0 some.1))
]
enough (suc n) zero bytes few_n few_m = elim (cases_option (attribute_at bytes)) [
  | inl none ↦ none_within (suc n) bytes none
  | inr some ↦ absurd (omega (arith, attribute_shortens bytes some.0 some.1))
]
enough (suc n) (suc m) bytes few_n few_m = elim (cases_option (attribute_at bytes)) [
  | inl none ↦ none_within (suc n) bytes none ∙ sym (none_within (suc m) bytes none)
  | inr some ↦
      let shorter = attribute_shortens bytes some.0 some.1 in
      rw (some.1, attributes_within, enough n m some.0.1 (omega arith) (omega arith)) refl
]

attributes_none : (bytes : List ℕ) → attribute_at bytes ≡ None → attributes_at bytes ≡ ([], bytes)
unfolding attributes_at
attributes_none bytes none = none_within (length bytes) bytes none

attributes_some : (bytes : List ℕ) (x : Written × List ℕ) → attribute_at bytes ≡ Some x → attributes_at bytes ≡ (x.0 ∷ (attributes_at x.1).0, (attributes_at x.1).1)
unfolding attributes_at attributes_within
attributes_some [] x cut = absurd (omega (arith, attribute_shortens [] x cut))
attributes_some (b ∷ bytes) x cut =
    let shorter = attribute_shortens (b ∷ bytes) x cut in
    rw (cut, attributes_within, enough (length bytes) (length x.1) x.1 (omega arith) (omega arith)) refl

-- these attributes come first, followed by those of the rest
abbrev pub GoesOn : List ℕ → List Written → List ℕ → Type 0
GoesOn bytes front rest = attributes_at bytes ≡ (front ++ (attributes_at rest).0, (attributes_at rest).1)

pub one_on : (bytes rest : List ℕ) (front : List Written) (x : Written × List ℕ) → attribute_at rest ≡ Some x → GoesOn bytes front rest → GoesOn bytes (front ++ x.0 ∷ []) x.1
one_on bytes rest front x cut on =
    let next = attributes_some rest x cut in
    let grouped : (front ++ x.0 ∷ []) ++ (attributes_at x.1).0 ≡ front ++ x.0 ∷ (attributes_at x.1).0 = append_assoc front (x.0 ∷ []) (attributes_at x.1).0 in
    on ∙ ap (λ (y : List Written × List ℕ). (front ++ y.0, y.1)) next ∙ rw grouped refl

pub all_of : (bytes rest : List ℕ) (front : List Written) → attribute_at rest ≡ None → GoesOn bytes front rest → (front, rest) ≡ attributes_at bytes
all_of bytes rest front none on =
    let last = attributes_none rest none in
    sym (on ∙ ap (λ (y : List Written × List ℕ). (front ++ y.0, y.1)) last ∙ rw append-nil refl)
