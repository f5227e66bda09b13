-- The first part that isn't read is at the place where the pieces of a body break off.
use Rattle.std.proofs.Common.{◌≡◌, ℕ, zero, suc, ◌+◌, ◌≤◌, List, [], ◌∷◌, ◌++◌, ◌⊎◌, Some, None, length, drop, refl, sym, ap, subst, ◌∙◌, arith, inl, inr, ◌↔◌}
use Rattle.std.specs.Prelude.{Result, Ok, Err, IsTrue}
use Rattle.mime_fields.specs.Fields.{PartValue, crlf, part_of}
use Rattle.mime_package.specs.declared.read.MimeRefusal.{MimeRefusal}
use Rattle.mime_package.specs.declared.read.MimeRefusal.TheVariants.{NoBoundary, BadPart}
use Rattle.mime_package.specs.Pieces.{IsDelimiter, IsLastDelimiter, Holds, GoesOn, ArePieces, HasNoEnd, HasBadPiece, BreaksAt}
use Rattle.mime_package.specs.Reading.{Ending, last, next, is_boundary, delimiter_at, ending_at, up_to, max_parts, also, parts_within, parts_of}
use Rattle.byte_forms.proofs.CutLemmas.{cases_option}
use Rattle.mime_package.proofs.AgainLemmas.{Spelled, piece_cut, first_again}
use Rattle.mime_package.proofs.FreeLemmas.{next_again}
use Rattle.mime_package.proofs.LineLemmas.{NoCr, LineEnds, no_cr_boundary, delimiter_line, last_line, delimiter_taken, last_taken, last_again, ending_last, is_last, is_next}
use Rattle.mime_package.proofs.NowhereLemmas.{delimiter_nowhere, delimiter_held, end_nowhere, end_not_found}
use Rattle.mime_package.proofs.PartsLemmas.{no_ending, no_part, last_part, next_part, no_delimiter, parts_behind}
use Rattle.mime_package.proofs.TakenLemmas.{piece_of, first_taken}
use Rattle.mime_package.proofs.WindowLemmas.{Taken, up_to_taken}

-- ---- the refusals of a body

-- a part before others doesn't change the refusal
also_refused : (part : PartValue) (others : Result (List PartValue) MimeRefusal) (e : MimeRefusal) → also part others ≡ Err e → others ≡ Err e
also_refused part (Ok parts) e is = absurd cc
also_refused part (Err other) e is = cc

-- after a delimiter, a refusal is always BadPart
pub refused_within : (n index : ℕ) (boundary bytes : List ℕ) (e : MimeRefusal) → parts_within n index boundary bytes ≡ Err e → (k : ℕ) × (e ≡ BadPart k)
unfolding parts_within
refused_within zero index boundary bytes e is = (index, cc)
refused_within (suc n) index boundary bytes e is = elim (cases_option (up_to (ending_at boundary) bytes)) [
  | inl none ↦ let no = no_ending n index boundary bytes none in (index, cc)
  | inr cut ↦ elim (cases_option (part_of (drop 2 cut.0.0))) [
    | inl none ↦ let no = no_part n index boundary bytes cut.0 cut.1 none in (index, cc)
    | inr part ↦ by_ending cut.0.0 cut.0.1 part.0 cut.1 part.1 (λ rest more. refused_within n (index + 1) boundary rest e more)
  ]
]
  where
    by_ending : (piece : List ℕ) (x : Ending) (part : PartValue) → up_to (ending_at boundary) bytes ≡ Some (piece, x) → part_of (drop 2 piece) ≡ Some part
        → ((rest : List ℕ) → parts_within n (index + 1) boundary rest ≡ Err e → (k : ℕ) × (e ≡ BadPart k)) → (k : ℕ) × (e ≡ BadPart k)
    by_ending piece last part cut spelled more = let read = last_part n index boundary bytes piece part cut spelled in absurd cc
    by_ending piece (next rest) part cut spelled more =
        more rest (also_refused part (parts_within n (index + 1) boundary rest) e (sym (next_part n index boundary bytes piece rest part cut spelled) ∙ is))

-- a body has no boundary exactly if it contains no delimiter
pub no_boundary : (boundary body : List ℕ) → ((parts_of boundary body ≡ Err NoBoundary) ↔ (¬ (Holds (IsDelimiter boundary) (crlf ++ body))))
no_boundary boundary body = (taken, again)
  where
    taken : parts_of boundary body ≡ Err NoBoundary → Holds (IsDelimiter boundary) (crlf ++ body) → ⊥
    taken e holds = elim (cases_option (up_to (delimiter_at boundary) (crlf ++ body))) [
      | inl none ↦ delimiter_nowhere boundary (crlf ++ body) none holds
      | inr cut ↦ let bad = refused_within max_parts 0 boundary cut.0.1 NoBoundary (sym (parts_behind boundary body cut.0 cut.1) ∙ e) in cc (bad.1)
    ]

    again : (Holds (IsDelimiter boundary) (crlf ++ body) → ⊥) → parts_of boundary body ≡ Err NoBoundary
    again free = elim (cases_option (up_to (delimiter_at boundary) (crlf ++ body))) [
      | inl none ↦ no_delimiter boundary body none
      | inr cut ↦ absurd (free (delimiter_held boundary (crlf ++ body) cut.0 cut.1))
    ]

-- ---- the first part that isn't read

-- why no part is read after n others
abbrev Breaks : ℕ → ℕ → List ℕ → List ℕ → Type 0
Breaks count n boundary behind = (count ≡ n) ⊎ (HasNoEnd boundary behind ⊎ HasBadPiece boundary behind)

-- where the pieces after a delimiter break off, given the index of the first of them
record AreBroken (n index : ℕ) (boundary bytes : List ℕ) (k : ℕ) : Type 0 where
  pub pieces : List (List ℕ)
  pub parts : List PartValue
  pub behind : List ℕ
  pub are : ArePieces boundary pieces bytes behind
  pub place : index + length pieces ≡ k
  pub few : length pieces ≤ n
  pub spelled : Spelled pieces parts
  pub breaks : Breaks (length pieces) n boundary behind

-- they break off at once
breaks_here : (n index : ℕ) (boundary bytes : List ℕ) (k : ℕ) → index ≡ k → Breaks zero n boundary bytes → AreBroken n index boundary bytes k
breaks_here n index boundary bytes k same breaks = record {
  pieces = [];
  parts = [];
  behind = bytes;
  are = refl;
  place = omega (arith, same);
  few = omega arith;
  spelled = refl;
  breaks = breaks;
}

-- a piece that spells no part
bad_piece : (boundary bytes piece : List ℕ) (x : Ending) → NoCr boundary → GoesOn bytes → Taken (ending_at boundary) bytes (piece, x) → part_of (drop 2 piece) ≡ None → HasBadPiece boundary bytes
bad_piece boundary bytes piece last no_cr goes taken none =
    let line = last_taken boundary taken.0 (is_last boundary taken.0 taken.2) in
    record {
      piece = piece;
      line = line.0;
      rest = line.1;
      is_piece = piece_of boundary bytes piece line.0 line.1 taken.0 no_cr goes (last_line boundary line.0 no_cr line.2) taken.1 line.4 taken.3;
      ended = inr (line.2, line.3);
      bytes_are = taken.1 ∙ ap (λ (l : List ℕ). piece ++ l) line.4;
      no_part = none;
    }
bad_piece boundary bytes piece (next rest) no_cr goes taken none =
    let line = delimiter_taken boundary taken.0 rest (is_next boundary taken.0 rest taken.2) in
    record {
      piece = piece;
      line = line.0;
      rest = rest;
      is_piece = piece_of boundary bytes piece line.0 rest taken.0 no_cr goes (delimiter_line boundary line.0 no_cr line.1) taken.1 line.3 taken.3;
      ended = inl (line.1, line.2);
      bytes_are = taken.1 ∙ ap (λ (l : List ℕ). piece ++ l) line.3;
      no_part = none;
    }

-- one more piece before them
breaks_behind : (n index : ℕ) (boundary bytes piece rest : List ℕ) (part : PartValue) (k : ℕ) → NoCr boundary → GoesOn bytes → Taken (ending_at boundary) bytes (piece, next rest)
    → part_of (drop 2 piece) ≡ Some part → (GoesOn rest → AreBroken n (index + 1) boundary rest k) → AreBroken (suc n) index boundary bytes k
breaks_behind n index boundary bytes piece rest part k no_cr goes taken spelled others =
    let line = delimiter_taken boundary taken.0 rest (is_next boundary taken.0 rest taken.2) in
    let is = piece_of boundary bytes piece line.0 rest taken.0 no_cr goes (delimiter_line boundary line.0 no_cr line.1) taken.1 line.3 taken.3 in
    let more = others line.2 in
    let spells : Spelled more.pieces more.parts = more.spelled in
    record {
      pieces = piece ∷ more.pieces;
      parts = part ∷ more.parts;
      behind = more.behind;
      are = (is, (line.0, rest, line.1, line.2, taken.1 ∙ ap (λ (l : List ℕ). piece ++ l) line.3, more.are));
      place = omega (arith, more.place);
      few = omega (arith, more.few);
      spelled = cc (spelled, spells);
      breaks = longer more.breaks;
    }
  where
    longer : {c : ℕ} {X : Type 0} → (c ≡ n) ⊎ X → (suc c ≡ suc n) ⊎ X
    longer (inl same) = inl (ap suc same)
    longer (inr x) = inr x

-- by the end of the first part
by_end : (n index : ℕ) (boundary bytes piece : List ℕ) (x : Ending) (part : PartValue) (k : ℕ) → NoCr boundary → GoesOn bytes → up_to (ending_at boundary) bytes ≡ Some (piece, x)
    → part_of (drop 2 piece) ≡ Some part → parts_within (suc n) index boundary bytes ≡ Err (BadPart k)
    → ((rest : List ℕ) → GoesOn rest → parts_within n (index + 1) boundary rest ≡ Err (BadPart k) → AreBroken n (index + 1) boundary rest k) → AreBroken (suc n) index boundary bytes k
by_end n index boundary bytes piece last part k no_cr goes is spelled e more = let read = last_part n index boundary bytes piece part is spelled in absurd cc
by_end n index boundary bytes piece (next rest) part k no_cr goes is spelled e more =
    breaks_behind n index boundary bytes piece rest part k no_cr goes (up_to_taken (ending_at boundary) bytes (piece, next rest) is) spelled
    (λ goes_on. more rest goes_on (also_refused part (parts_within n (index + 1) boundary rest) (BadPart k) (sym (next_part n index boundary bytes piece rest part is spelled) ∙ e)))

-- after a delimiter
broken_taken : (n index : ℕ) (boundary bytes : List ℕ) (k : ℕ) → NoCr boundary → GoesOn bytes → parts_within n index boundary bytes ≡ Err (BadPart k) → AreBroken n index boundary bytes k
unfolding parts_within
broken_taken zero index boundary bytes k no_cr goes e = breaks_here zero index boundary bytes k (cc) (inl refl)
broken_taken (suc n) index boundary bytes k no_cr goes e = elim (cases_option (up_to (ending_at boundary) bytes)) [
  | inl none ↦ let no = no_ending n index boundary bytes none in breaks_here (suc n) index boundary bytes k (cc) (inr (inl (end_nowhere boundary bytes none)))
  | inr cut ↦ elim (cases_option (part_of (drop 2 cut.0.0))) [
    | inl none ↦
        let no = no_part n index boundary bytes cut.0 cut.1 none in
        breaks_here (suc n) index boundary bytes k (cc) (inr (inr (bad_piece boundary bytes cut.0.0 cut.0.1 no_cr goes (up_to_taken (ending_at boundary) bytes cut.0 cut.1) none)))
    | inr part ↦
        by_end n index boundary bytes cut.0.0 cut.0.1 part.0 k no_cr goes cut.1 part.1 e
        (λ rest goes_on read. broken_taken n (index + 1) boundary rest k no_cr goes_on read)
  ]
]

-- ---- and the converse

-- if the next piece is bad, its part isn't read
bad_again : (n index : ℕ) (boundary bytes : List ℕ) → NoCr boundary → HasBadPiece boundary bytes → parts_within (suc n) index boundary bytes ≡ Err (BadPart index)
bad_again n index boundary bytes no_cr bad = by_line bad.ended
  where
    by_line : (IsDelimiter boundary bad.line × GoesOn bad.rest) ⊎ (IsLastDelimiter boundary bad.line × LineEnds bad.rest) → parts_within (suc n) index boundary bytes ≡ Err (BadPart index)
    by_line (inl is) =
        let found = next_again boundary bad.line bad.rest is.0 is.1 in
        let cut = piece_cut boundary bad.piece bad.line bad.rest (next bad.rest) no_cr bad.is_piece (delimiter_line boundary bad.line no_cr is.0) found in
        no_part n index boundary bytes (bad.piece, next bad.rest) (ap (up_to (ending_at boundary)) bad.bytes_are ∙ cut) bad.no_part
    by_line (inr is) =
        let found = ending_last boundary (bad.line ++ bad.rest) (last_again boundary bad.line bad.rest is.0 is.1) in
        let cut = piece_cut boundary bad.piece bad.line bad.rest last no_cr bad.is_piece (last_line boundary bad.line no_cr is.0) found in
        no_part n index boundary bytes (bad.piece, last) (ap (up_to (ending_at boundary)) bad.bytes_are ∙ cut) bad.no_part

-- after a delimiter
broken_again : (pieces : List (List ℕ)) (parts : List PartValue) (n index : ℕ) (boundary bytes behind : List ℕ) → NoCr boundary → ArePieces boundary pieces bytes behind → length pieces ≤ n
    → Spelled pieces parts → Breaks (length pieces) n boundary behind → parts_within n index boundary bytes ≡ Err (BadPart (index + length pieces))
unfolding parts_within
broken_again [] parts zero index boundary bytes behind no_cr are few spelled breaks = let same : index ≡ index + 0 = omega arith in ap (λ i. Err (BadPart i)) same
broken_again [] parts (suc n) index boundary bytes behind no_cr are few spelled (inl full) = absurd (omega (arith, full))
broken_again [] parts (suc n) index boundary bytes behind no_cr are few spelled (inr (inl has)) =
    let same : index ≡ index + 0 = omega arith in
    no_ending n index boundary bytes (ap (up_to (ending_at boundary)) are ∙ end_not_found boundary behind has) ∙ ap (λ i. Err (BadPart i)) same
broken_again [] parts (suc n) index boundary bytes behind no_cr are few spelled (inr (inr bad)) =
    let same : index ≡ index + 0 = omega arith in
    ap (parts_within (suc n) index boundary) are ∙ bad_again n index boundary behind no_cr bad ∙ ap (λ i. Err (BadPart i)) same
broken_again (piece ∷ pieces) parts zero index boundary bytes behind no_cr are few spelled breaks = absurd (omega (arith, few))
broken_again (piece ∷ pieces) [] (suc n) index boundary bytes behind no_cr are few spelled breaks = absurd cc
broken_again (piece ∷ pieces) (part ∷ parts) (suc n) index boundary bytes behind no_cr are few spelled breaks =
    let tail = are.1 in
    let found = next_again boundary tail.0 tail.1 tail.2 tail.3 in
    let cut = ap (up_to (ending_at boundary)) tail.4 ∙ piece_cut boundary piece tail.0 tail.1 (next tail.1) no_cr are.0 (delimiter_line boundary tail.0 no_cr tail.2) found in
    let spelled_more : Spelled pieces parts = cc in
    let more = broken_again pieces parts n (index + 1) boundary tail.1 behind no_cr tail.5 (omega (arith, few)) spelled_more (shorter breaks) in
    let same : (index + 1) + length pieces ≡ index + length (piece ∷ pieces) = omega arith in
    next_part n index boundary bytes piece tail.1 part cut (cc) ∙ ap (also part) more ∙ ap (λ i. Err (BadPart i)) same
  where
    shorter : {c : ℕ} {X : Type 0} → (suc c ≡ suc n) ⊎ X → (c ≡ n) ⊎ X
    shorter (inl full) = inl (omega (arith, full))
    shorter (inr x) = inr x

-- if a part isn't read, the pieces of the body break off there
pub body_breaks : (boundary body : List ℕ) (k : ℕ) → IsTrue (is_boundary boundary) → parts_of boundary body ≡ Err (BadPart k) → BreaksAt boundary body k
body_breaks boundary body k is e = elim (cases_option (up_to (delimiter_at boundary) (crlf ++ body))) [
  | inl none ↦ let no = no_delimiter boundary body none in absurd cc
  | inr cut ↦
      let no_cr = no_cr_boundary boundary is in
      let first = first_taken boundary body cut.0 no_cr cut.1 in
      let broken = broken_taken max_parts 0 boundary cut.0.1 k no_cr first.goes_on (sym (parts_behind boundary body cut.0 cut.1) ∙ e) in
      let count : length broken.pieces ≡ k = omega (arith, broken.place) in
      record {
        rest = cut.0.1;
        first = first;
        pieces = broken.pieces;
        behind = broken.behind;
        are = broken.are;
        counted = count;
        few = omega (arith, count, broken.few);
        parts = broken.parts;
        spelled = broken.spelled;
        breaks = subst (λ c. Breaks c max_parts boundary broken.behind) count broken.breaks;
      }
]

-- if they break off, the part there isn't read
pub broken_body : (boundary body : List ℕ) (k : ℕ) → IsTrue (is_boundary boundary) → BreaksAt boundary body k → parts_of boundary body ≡ Err (BadPart k)
broken_body boundary body k is breaks =
    let no_cr = no_cr_boundary boundary is in
    let ends = subst (λ c. Breaks c max_parts boundary breaks.behind) (sym breaks.counted) breaks.breaks in
    let count : 0 + length breaks.pieces ≡ k = omega (arith, breaks.counted) in
    parts_behind boundary body (breaks.first.front, breaks.rest) (first_again boundary body breaks.rest no_cr breaks.first)
    ∙ broken_again breaks.pieces breaks.parts max_parts 0 boundary breaks.rest breaks.behind no_cr breaks.are (omega (arith, breaks.counted, breaks.few)) breaks.spelled ends
    ∙ ap (λ i. Err (BadPart i)) count
