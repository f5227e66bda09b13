-- The prefix of each delimiter.
use Rattle.std.proofs.Common.{◌≡◌, ℕ, Bool, true, false, List, [], ◌∷◌, ◌++◌, Some, None, refl, sym, ap, ◌∙◌, append_assoc, inl, inr, get_or, Option}
use Rattle.std.proofs.lemmas.Bool.{false≢true}
use Rattle.byte_forms.specs.Cuts.{strip_prefix}
use Rattle.byte_forms.proofs.OnceLemmas.{apart}
use Rattle.mime_fields.specs.Fields.{crlf}
use Rattle.std.specs.Prelude.{option_map}
use Rattle.mime_package.specs.Reading.{Ending, line_end, delimiter_at, is_last_at, ending_at, up_to}
use Rattle.byte_forms.proofs.CutLemmas.{cases_option, bind_some, strip_prefix_takes}
use Rattle.mime_package.proofs.DelimiterLemmas.{hyphens}
use Rattle.mime_package.proofs.UpToLemmas.{BeginWith, behind_front, up_to_here, up_to_behind}

-- CRLF, two hyphens and the boundary
abbrev pub start_of : List ℕ → List ℕ
start_of boundary = crlf ++ (hyphens ++ boundary)

-- a delimiter begins with it
delimiter_begins : (boundary : List ℕ) → BeginWith (start_of boundary) (delimiter_at boundary)
unfolding delimiter_at
delimiter_begins boundary = record {
  begins = λ bytes x is. bind_some (strip_prefix (start_of boundary) bytes) line_end x is (λ rest cut ends. (rest, strip_prefix_takes (start_of boundary) bytes rest cut));
}

-- so does the last delimiter
last_begins : (boundary bytes : List ℕ) → is_last_at boundary bytes ≡ true → (rest : List ℕ) × (bytes ≡ start_of boundary ++ rest)
unfolding is_last_at
last_begins boundary bytes is = elim (cases_option (strip_prefix (start_of (boundary ++ hyphens)) bytes)) [
  | inl none ↦ let no : is_last_at boundary bytes ≡ false = rw (none, is_last_at) refl in absurd (false≢true (sym no ∙ is))
  | inr some ↦ (hyphens ++ some.0, strip_prefix_takes (start_of (boundary ++ hyphens)) bytes some.0 some.1 ∙ ap (λ (l : List ℕ). crlf ++ (hyphens ++ l)) (append_assoc boundary hyphens some.0))
]

-- and so does each end of a part
ending_begins : (boundary bytes : List ℕ) (x : Ending) (b : Bool) → is_last_at boundary bytes ≡ b → ending_at boundary bytes ≡ Some x → (rest : List ℕ) × (bytes ≡ start_of boundary ++ rest)
unfolding ending_at
ending_begins boundary bytes x true last is = last_begins boundary bytes last
ending_begins boundary bytes x false not_last is = elim (cases_option (delimiter_at boundary bytes)) [
  | inl none ↦ let no : ending_at boundary bytes ≡ None = rw (not_last, none) refl in absurd cc
  | inr some ↦ (delimiter_begins boundary).begins bytes some.0 some.1
]

-- the same for a search for the start
pub delimiters_begin : (boundary start : List ℕ) → start ≡ start_of boundary → BeginWith start (delimiter_at boundary)
delimiters_begin boundary start is = rw is (delimiter_begins boundary)

-- the same for ends of parts
pub endings_begin : (boundary start : List ℕ) → start ≡ start_of boundary → BeginWith start (ending_at boundary)
endings_begin boundary start is =
    rw is (record { begins = λ bytes x held. ending_begins boundary bytes x (is_last_at boundary bytes) refl held })

-- ---- the body's first delimiter

-- the result is the same, whatever precedes it
second_in_front : {X : Type 0} (front : List ℕ) (cut : Option (List ℕ × X)) → option_map (λ c. c.1) (behind_front front cut) ≡ option_map (λ c. c.1) cut
second_in_front front None = refl
second_in_front front (Some cut) = refl

-- no delimiter begins at an LF
not_at_lf : (boundary bytes : List ℕ) → delimiter_at boundary (10 ∷ bytes) ≡ None
not_at_lf boundary bytes = elim (cases_option (delimiter_at boundary (10 ∷ bytes))) [
  | inl none ↦ none
  | inr some ↦ let begin = (delimiter_begins boundary).begins (10 ∷ bytes) some.0 some.1 in absurd (apart (ap (λ l. get_or l 0 0) begin.1) refl)
]

-- the delimiter is at the body's first byte
pub first_found : (boundary body rest : List ℕ) → delimiter_at boundary (crlf ++ body) ≡ Some rest → option_map (λ cut. cut.1) (up_to (delimiter_at boundary) (crlf ++ body)) ≡ Some rest
first_found boundary body rest is = ap (option_map (λ cut. cut.1)) (up_to_here (delimiter_at boundary) (crlf ++ body) rest is)

-- it isn't there
pub first_further : (boundary body : List ℕ) → delimiter_at boundary (crlf ++ body) ≡ None
    → option_map (λ cut. cut.1) (up_to (delimiter_at boundary) (crlf ++ body)) ≡ option_map (λ cut. cut.1) (up_to (delimiter_at boundary) body)
first_further boundary body none =
    let found = delimiter_at boundary in
    ap (option_map (λ cut. cut.1)) (up_to_behind found 13 (10 ∷ body) none ∙ ap (behind_front (13 ∷ [])) (up_to_behind found 10 body (not_at_lf boundary body)))
    ∙ second_in_front (13 ∷ []) (behind_front (10 ∷ []) (up_to found body)) ∙ second_in_front (10 ∷ []) (up_to found body)
