-- Words, one after another, and blanks.
use Rattle.std.proofs.Common.{◌≡◌, ℕ, Bool, true, false, List, [], ◌∷◌, ◌++◌, length, None, inl, inr, refl, sym, ap, ◌∙◌, append_assoc}
use Rattle.std.specs.Prelude.{not, position, unwrap_or}
use Rattle.std.specs.List.{prefix_len}
use Rattle.std.proofs.lemmas.List.{append_cancel_left}
use Rattle.byte_forms.proofs.SearchLemmas.{position_or_end}
use Rattle.byte_forms.specs.Classes.{is_space}
use Rattle.byte_forms.specs.Cuts.{◌>>=◌, strip_prefix}
use Rattle.byte_forms.proofs.CutLemmas.{cases_option, strip_prefix_takes, strip_prefix_again}

-- bytes without a prefix don't begin with it
behind_none : (word bytes rest : List ℕ) → strip_prefix word bytes ≡ None → bytes ≡ word ++ rest → ⊥
behind_none word bytes rest none is = let again = ap (strip_prefix word) is ∙ strip_prefix_again word rest in cc

-- the second of two words, after the first
word_behind : (a b rest : List ℕ) → strip_prefix b rest ≡ strip_prefix (a ++ b) (a ++ rest)
word_behind a b rest = elim (cases_option (strip_prefix b rest)) [
  | inr some ↦
      let whole : a ++ rest ≡ (a ++ b) ++ some.0 = ap (λ (l : List ℕ). a ++ l) (strip_prefix_takes b rest some.0 some.1) ∙ sym (append_assoc a b some.0) in
      some.1 ∙ sym (ap (strip_prefix (a ++ b)) whole ∙ strip_prefix_again (a ++ b) some.0)
  | inl none ↦ elim (cases_option (strip_prefix (a ++ b) (a ++ rest))) [
    | inl also ↦ none ∙ sym also
    | inr some ↦
        let whole = strip_prefix_takes (a ++ b) (a ++ rest) some.0 some.1 ∙ append_assoc a b some.0 in
        absurd (behind_none b rest some.0 none (append_cancel_left a rest (b ++ some.0) whole))
  ]
]

-- two words, one after the other
pub behind_both : (a b bytes : List ℕ) → (strip_prefix a bytes >>= strip_prefix b) ≡ strip_prefix (a ++ b) bytes
behind_both a b bytes = elim (cases_option (strip_prefix a bytes)) [
  | inr some ↦
      ap (λ o. o >>= strip_prefix b) some.1 ∙ word_behind a b some.0 ∙ ap (strip_prefix (a ++ b)) (sym (strip_prefix_takes a bytes some.0 some.1))
  | inl none ↦ elim (cases_option (strip_prefix (a ++ b) bytes)) [
    | inl also ↦ ap (λ o. o >>= strip_prefix b) none ∙ sym also
    | inr some ↦ absurd (behind_none a bytes (b ++ some.0) none (strip_prefix_takes (a ++ b) bytes some.0 some.1 ∙ append_assoc a b some.0))
  ]
]
