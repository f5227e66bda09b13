-- What isn't found doesn't occur.
use Rattle.std.proofs.Common.{◌≡◌, ℕ, List, [], ◌∷◌, ◌++◌, Option, Some, None, refl, sym, ap, ◌∙◌, arith, append_assoc, inl, inr}
use Rattle.mime_fields.specs.Fields.{crlf}
use Rattle.mime_package.specs.Pieces.{IsDelimiter, IsLastDelimiter, Holds, HasNoEnd}
use Rattle.mime_package.specs.Reading.{Ending, last, next, delimiter_at, ending_at, up_to}
use Rattle.byte_forms.proofs.CutLemmas.{cases_option}
use Rattle.mime_package.proofs.FreeLemmas.{next_again}
use Rattle.mime_package.proofs.LineLemmas.{LineEnds, delimiter_taken, delimiter_again, last_taken, last_again, ending_last, is_last, is_next}
use Rattle.mime_package.proofs.UpToLemmas.{behind_front, up_to_here, up_to_behind}
use Rattle.mime_package.proofs.WindowLemmas.{front_begins, end_with_crlf, split_front, up_to_taken}

-- nothing is found after a prefix
none_behind : {X : Type 0} (front : List ℕ) (cut : Option (List ℕ × X)) → behind_front front cut ≡ None → cut ≡ None
none_behind front None none = refl
none_behind front (Some cut) none = absurd cc

-- what isn't found in the bytes isn't found after any prefix of them
found_nowhere : {X : Type 0} (found : List ℕ → Option X) (front rest : List ℕ) → up_to found (front ++ rest) ≡ None → found rest ≡ None
found_nowhere found [] rest none = elim (cases_option (found rest)) [
  | inl here ↦ here
  | inr some ↦ let hit = up_to_here found rest some.0 some.1 in absurd cc
]
found_nowhere found (b ∷ front) rest none = elim (cases_option (found (b ∷ (front ++ rest)))) [
  | inr some ↦ let hit = up_to_here found (b ∷ (front ++ rest)) some.0 some.1 in absurd cc
  | inl here ↦ found_nowhere found front rest (none_behind (b ∷ []) (up_to found (front ++ rest)) (sym (up_to_behind found b (front ++ rest) here) ∙ none))
]

-- ---- the first delimiter

-- a delimiter that isn't found doesn't occur
pub delimiter_nowhere : (boundary bytes : List ℕ) → up_to (delimiter_at boundary) bytes ≡ None → Holds (IsDelimiter boundary) bytes → ⊥
delimiter_nowhere boundary bytes none holds =
    let here = found_nowhere (delimiter_at boundary) holds.front (holds.line ++ (crlf ++ holds.back)) (sym (ap (up_to (delimiter_at boundary)) holds.bytes_are) ∙ none) in
    let found = delimiter_again boundary holds.line (crlf ++ holds.back) holds.is_line (holds.back, refl) in
    cc

-- a delimiter that is found after a prefix occurs there
held_at : (boundary bytes front found rest : List ℕ) → bytes ≡ front ++ found → delimiter_at boundary found ≡ Some rest → Holds (IsDelimiter boundary) bytes
held_at boundary bytes front found rest whole is =
    let line = delimiter_taken boundary found rest is in
    record {
      front = front;
      line = line.0;
      back = line.2.0;
      is_line = line.1;
      bytes_are = whole ∙ ap (λ (l : List ℕ). front ++ l) (line.3 ∙ ap (λ (l : List ℕ). line.0 ++ l) line.2.1);
    }

-- so does the first delimiter
pub delimiter_held : (boundary bytes : List ℕ) (cut : List ℕ × List ℕ) → up_to (delimiter_at boundary) bytes ≡ Some cut → Holds (IsDelimiter boundary) bytes
delimiter_held boundary bytes cut is =
    let taken = up_to_taken (delimiter_at boundary) bytes cut is in
    held_at boundary bytes cut.0 taken.0 cut.1 taken.1 taken.2

-- ---- the end of a part

-- a last delimiter before an appended CRLF is at the end of the bytes, or followed by a line in them
last_within : (boundary bytes : List ℕ) (holds : Holds (IsLastDelimiter boundary) (bytes ++ crlf)) → (rest : List ℕ) × (bytes ≡ holds.front ++ (holds.line ++ rest)) × LineEnds rest
last_within boundary bytes holds =
    let split = split_front bytes crlf (holds.front ++ holds.line) (crlf ++ holds.back) (holds.bytes_are ∙ sym (append_assoc holds.front holds.line (crlf ++ holds.back))) (omega arith) in
    (split.0, split.1 ∙ append_assoc holds.front holds.line split.0, front_begins split.0 [] holds.back split.2)

-- if no end of a part is found, there is none
pub end_nowhere : (boundary bytes : List ℕ) → up_to (ending_at boundary) bytes ≡ None → HasNoEnd boundary bytes
end_nowhere boundary bytes none = record {
  no_delimiter = λ holds.
      let here = found_nowhere (ending_at boundary) holds.front (holds.line ++ (crlf ++ holds.back)) (sym (ap (up_to (ending_at boundary)) holds.bytes_are) ∙ none) in
      let found = next_again boundary holds.line (crlf ++ holds.back) holds.is_line (holds.back, refl) in
      cc;
  no_last = λ holds.
      let within = last_within boundary bytes holds in
      let here = found_nowhere (ending_at boundary) holds.front (holds.line ++ within.0) (sym (ap (up_to (ending_at boundary)) within.1) ∙ none) in
      let found = ending_last boundary (holds.line ++ within.0) (last_again boundary holds.line within.0 holds.is_line within.2) in
      cc;
}

-- a last delimiter at the end, or followed by a line, precedes a CRLF once one is appended
last_held : (boundary bytes front line rest : List ℕ) → IsLastDelimiter boundary line → LineEnds rest → bytes ≡ front ++ (line ++ rest) → Holds (IsLastDelimiter boundary) (bytes ++ crlf)
last_held boundary bytes front line rest is ends whole =
    let back = end_with_crlf rest ends in
    record {
      front = front;
      line = line;
      back = back.0;
      is_line = is;
      bytes_are =
          ap (λ (l : List ℕ). l ++ crlf) whole ∙ append_assoc front (line ++ rest) crlf
          ∙ ap (λ (l : List ℕ). front ++ l) (append_assoc line rest crlf ∙ ap (λ (l : List ℕ). line ++ l) back.1);
    }

-- if there is no end of a part, none is found
pub end_not_found : (boundary bytes : List ℕ) → HasNoEnd boundary bytes → up_to (ending_at boundary) bytes ≡ None
end_not_found boundary bytes has = elim (cases_option (up_to (ending_at boundary) bytes)) [
  | inl none ↦ none
  | inr cut ↦
      let taken = up_to_taken (ending_at boundary) bytes cut.0 cut.1 in
      absurd (by_ending cut.0.0 cut.0.1 taken.0 taken.1 taken.2)
]
  where
    by_ending : (front : List ℕ) (x : Ending) (found : List ℕ) → bytes ≡ front ++ found → ending_at boundary found ≡ Some x → ⊥
    by_ending front last found whole is =
        let line = last_taken boundary found (is_last boundary found is) in
        has.no_last (last_held boundary bytes front line.0 line.1 line.2 line.3 (whole ∙ ap (λ (l : List ℕ). front ++ l) line.4))
    by_ending front (next rest) found whole is = has.no_delimiter (held_at boundary bytes front found rest whole (is_next boundary found rest is))
