-- The parts that are read from a body are those that its pieces spell.
use Rattle.std.proofs.Common.{◌≡◌, ℕ, zero, suc, ◌+◌, ◌≤◌, List, [], ◌∷◌, ◌++◌, ◌⊎◌, Some, length, drop, refl, sym, ap, subst, ◌∙◌, arith, inl, inr}
use Rattle.std.specs.Prelude.{Result, Ok, Err, IsTrue}
use Rattle.mime_fields.specs.Fields.{PartValue, crlf, part_of}
use Rattle.mime_package.specs.Pieces.{IsDelimiter, GoesOn, IsPiece, AreParts, HasParts, StandBehindFirst}
use Rattle.mime_package.specs.Reading.{Ending, last, next, is_boundary, delimiter_at, ending_at, up_to, max_parts, also, parts_within, parts_of}
use Rattle.mime_package.proofs.AgainLemmas.{Spelled}
use Rattle.mime_package.proofs.FreeLemmas.{delimiters_found, piece_taken, line_begins}
use Rattle.byte_forms.proofs.CutLemmas.{cases_option}
use Rattle.mime_package.proofs.LineLemmas.{NoCr, IsLine, no_cr_boundary, delimiter_line, last_line, delimiter_taken, last_taken, is_last, is_next}
use Rattle.mime_package.proofs.PartsLemmas.{no_ending, no_part, last_part, next_part, no_delimiter, parts_behind}
use Rattle.mime_package.proofs.WindowLemmas.{NoneIn, Taken, free_from_none, up_to_taken}

-- the parts that were read after a delimiter
record AreRead (n : ℕ) (boundary bytes : List ℕ) (parts : List PartValue) : Type 0 where
  pub pieces : List (List ℕ)
  pub are : AreParts boundary pieces bytes
  pub few : length pieces ≤ n
  pub spelled : Spelled pieces parts

-- a result is Ok or Err
pub cases_result : {A E : Type 0} (r : Result A E) → ((x : A) × (r ≡ Ok x)) ⊎ ((e : E) × (r ≡ Err e))
cases_result (Ok x) = inl (x, refl)
cases_result (Err e) = inr (e, refl)

-- the bytes before a line that ends a part are a piece
pub piece_of : (boundary bytes piece line rest whole : List ℕ) → NoCr boundary → GoesOn bytes → IsLine line → bytes ≡ piece ++ whole → whole ≡ line ++ rest → NoneIn (ending_at boundary) piece whole → IsPiece boundary piece
piece_of boundary bytes piece line rest whole no_cr goes begins is whole_is none =
    let front = whole_is ∙ line_begins line rest begins in
    piece_taken boundary piece (begins.tail ++ rest) goes.0 no_cr (ap (λ (l : List ℕ). piece ++ l) (sym front) ∙ sym is ∙ goes.1) (subst (λ (l : List ℕ). NoneIn (ending_at boundary) piece l) front none)

-- the last part
one_read : (n : ℕ) (boundary bytes piece : List ℕ) (part : PartValue) → NoCr boundary → GoesOn bytes → Taken (ending_at boundary) bytes (piece, last) → part_of (drop 2 piece) ≡ Some part
    → AreRead (suc n) boundary bytes (part ∷ [])
one_read n boundary bytes piece part no_cr goes taken spelled =
    let line = last_taken boundary taken.0 (is_last boundary taken.0 taken.2) in
    let is = piece_of boundary bytes piece line.0 line.1 taken.0 no_cr goes (last_line boundary line.0 no_cr line.2) taken.1 line.4 taken.3 in
    record {
      pieces = piece ∷ [];
      are = (is, (line.0, line.1, line.2, taken.1 ∙ ap (λ (l : List ℕ). piece ++ l) line.4, line.3));
      few = omega arith;
      spelled = ap (λ o. o ∷ []) spelled;
    }

-- a part followed by others
more_read : (n : ℕ) (boundary bytes piece rest : List ℕ) (part : PartValue) (parts : List PartValue) → NoCr boundary → GoesOn bytes → Taken (ending_at boundary) bytes (piece, next rest)
    → part_of (drop 2 piece) ≡ Some part → (GoesOn rest → AreRead n boundary rest parts) → AreRead (suc n) boundary bytes (part ∷ parts)
more_read n boundary bytes piece rest part parts no_cr goes taken spelled others =
    let line = delimiter_taken boundary taken.0 rest (is_next boundary taken.0 rest taken.2) in
    let is = piece_of boundary bytes piece line.0 rest taken.0 no_cr goes (delimiter_line boundary line.0 no_cr line.1) taken.1 line.3 taken.3 in
    joined is line.0 line.1 line.2 (taken.1 ∙ ap (λ (l : List ℕ). piece ++ l) line.3) (others line.2).pieces (others line.2).are (others line.2).few (others line.2).spelled
  where
    joined : IsPiece boundary piece → (line : List ℕ) → IsDelimiter boundary line → GoesOn rest → bytes ≡ piece ++ (line ++ rest)
        → (pieces : List (List ℕ)) → AreParts boundary pieces rest → length pieces ≤ n → Spelled pieces parts → AreRead (suc n) boundary bytes (part ∷ parts)
    joined is line is_line goes_on whole [] are few spells = absurd are
    joined is line is_line goes_on whole (other ∷ pieces) are few spells = record {
      pieces = piece ∷ other ∷ pieces;
      are = (is, (line, rest, is_line, goes_on, whole, are));
      few = omega (arith, few);
      spelled = cc;
    }

-- by the end of the first part
by_ending : (n index : ℕ) (boundary bytes piece : List ℕ) (x : Ending) (part : PartValue) (parts : List PartValue) → NoCr boundary → GoesOn bytes → Taken (ending_at boundary) bytes (piece, x)
    → up_to (ending_at boundary) bytes ≡ Some (piece, x) → part_of (drop 2 piece) ≡ Some part → parts_within (suc n) index boundary bytes ≡ Ok parts
    → ((rest : List ℕ) (others : List PartValue) → GoesOn rest → parts_within n (index + 1) boundary rest ≡ Ok others → AreRead n boundary rest others) → AreRead (suc n) boundary bytes parts
by_ending n index boundary bytes piece last part parts no_cr goes taken is spelled e more =
    let read = last_part n index boundary bytes piece part is spelled in
    let same : part ∷ [] ≡ parts = cc in
    subst (λ (l : List PartValue). AreRead (suc n) boundary bytes l) same (one_read n boundary bytes piece part no_cr goes taken spelled)
by_ending n index boundary bytes piece (next rest) part parts no_cr goes taken is spelled e more =
    let read = next_part n index boundary bytes piece rest part is spelled in
    elim (cases_result (parts_within n (index + 1) boundary rest)) [
      | inr err ↦ let no : also part (parts_within n (index + 1) boundary rest) ≡ Err err.0 = ap (also part) err.1 in absurd cc
      | inl others ↦
          let all : also part (parts_within n (index + 1) boundary rest) ≡ Ok (part ∷ others.0) = ap (also part) others.1 in
          let same : part ∷ others.0 ≡ parts = cc in
          subst (λ (l : List PartValue). AreRead (suc n) boundary bytes l) same
          (more_read n boundary bytes piece rest part others.0 no_cr goes taken spelled (λ goes_on. more rest others.0 goes_on others.1))
    ]

-- the parts after a delimiter
parts_taken : (n index : ℕ) (boundary bytes : List ℕ) (parts : List PartValue) → NoCr boundary → GoesOn bytes → parts_within n index boundary bytes ≡ Ok parts → AreRead n boundary bytes parts
unfolding parts_within
parts_taken zero index boundary bytes parts no_cr goes e = absurd cc
parts_taken (suc n) index boundary bytes parts no_cr goes e = elim (cases_option (up_to (ending_at boundary) bytes)) [
  | inl none ↦ let no = no_ending n index boundary bytes none in absurd cc
  | inr cut ↦ elim (cases_option (part_of (drop 2 cut.0.0))) [
    | inl none ↦ let no = no_part n index boundary bytes cut.0 cut.1 none in absurd cc
    | inr part ↦
        by_ending n index boundary bytes cut.0.0 cut.0.1 part.0 parts no_cr goes (up_to_taken (ending_at boundary) bytes cut.0 cut.1) cut.1 part.1 e
        (λ rest others goes_on read. parts_taken n (index + 1) boundary rest others no_cr goes_on read)
  ]
]

-- the first delimiter that is found
pub first_taken : (boundary body : List ℕ) (cut : List ℕ × List ℕ) → NoCr boundary → up_to (delimiter_at boundary) (crlf ++ body) ≡ Some cut → StandBehindFirst boundary body cut.1
first_taken boundary body cut no_cr is =
    let taken = up_to_taken (delimiter_at boundary) (crlf ++ body) cut is in
    let line = delimiter_taken boundary taken.0 cut.1 taken.2 in
    let begins = delimiter_line boundary line.0 no_cr line.1 in
    let front = line.3 ∙ line_begins line.0 cut.1 begins in
    let none = subst (λ (l : List ℕ). NoneIn (delimiter_at boundary) cut.0 l) front taken.3 in
    record {
      front = cut.0;
      line = line.0;
      is_line = line.1;
      goes_on = line.2;
      body_is = taken.1 ∙ ap (λ (l : List ℕ). cut.0 ++ l) line.3;
      none_before = free_from_none (IsDelimiter boundary) (delimiter_at boundary) (delimiters_found boundary no_cr) cut.0 (begins.tail ++ cut.1) none;
    }

-- the parts of a body
pub body_taken : (boundary body : List ℕ) (parts : List PartValue) → IsTrue (is_boundary boundary) → parts_of boundary body ≡ Ok parts → HasParts boundary body parts
body_taken boundary body parts is e = elim (cases_option (up_to (delimiter_at boundary) (crlf ++ body))) [
  | inl none ↦ let no = no_delimiter boundary body none in absurd cc
  | inr cut ↦
      let no_cr = no_cr_boundary boundary is in
      let first = first_taken boundary body cut.0 no_cr cut.1 in
      let read = parts_taken max_parts 0 boundary cut.0.1 parts no_cr first.goes_on (sym (parts_behind boundary body cut.0 cut.1) ∙ e) in
      record {
        pieces = read.pieces;
        cut = record {
          front = first.front;
          line = first.line;
          rest = cut.0.1;
          is_line = first.is_line;
          goes_on = first.goes_on;
          body_is = first.body_is;
          none_before = first.none_before;
          parts = read.are;
        };
        few = read.few;
        spelled = read.spelled;
      }
]
