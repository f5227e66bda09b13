-- A body whose pieces spell parts is read as these parts.
use Rattle.std.proofs.Common.{◌≡◌, ℕ, zero, suc, ◌+◌, ◌≤◌, List, [], ◌∷◌, ◌++◌, Some, length, drop, map, sym, ap, subst, ◌∙◌, arith}
use Rattle.std.specs.Prelude.{Ok, IsTrue}
use Rattle.mime_fields.specs.Fields.{PartValue, crlf, part_of}
use Rattle.mime_package.specs.Pieces.{IsDelimiter, IsPiece, AreParts, HasParts, StandBehindFirst}
use Rattle.mime_package.specs.Reading.{Ending, last, next, is_boundary, delimiter_at, ending_at, up_to, max_parts, also, parts_within, parts_of}
use Rattle.mime_package.proofs.FreeLemmas.{delimiters_found, next_again, piece_again, line_begins}
use Rattle.mime_package.proofs.LineLemmas.{NoCr, IsLine, no_cr_boundary, delimiter_line, last_line, delimiter_again, last_again, ending_last}
use Rattle.mime_package.proofs.PartsLemmas.{last_part, next_part, parts_behind}
use Rattle.mime_package.proofs.WindowLemmas.{NoneIn, none_from_free, up_to_again}

-- up to the end of a piece
pub piece_cut : (boundary piece line rest : List ℕ) (x : Ending) → NoCr boundary → IsPiece boundary piece → IsLine line → ending_at boundary (line ++ rest) ≡ Some x
    → up_to (ending_at boundary) (piece ++ (line ++ rest)) ≡ Some (piece, x)
piece_cut boundary piece line rest x no_cr is begins found =
    up_to_again (ending_at boundary) piece (line ++ rest) x found
    (subst (λ (l : List ℕ). NoneIn (ending_at boundary) piece l) (sym (line_begins line rest begins)) (piece_again boundary piece (begins.tail ++ rest) no_cr is))

-- each piece spells its part
abbrev pub Spelled : List (List ℕ) → List PartValue → Type 0
Spelled pieces parts = map (λ piece. part_of (drop 2 piece)) pieces ≡ map Some parts

-- the parts after a delimiter
parts_again : (pieces : List (List ℕ)) (parts : List PartValue) (n index : ℕ) (boundary bytes : List ℕ) → NoCr boundary → AreParts boundary pieces bytes → length pieces ≤ n → Spelled pieces parts
    → parts_within n index boundary bytes ≡ Ok parts
parts_again [] parts n index boundary bytes no_cr are few spelled = absurd are
parts_again (piece ∷ pieces) parts zero index boundary bytes no_cr are few spelled = absurd (omega (arith, few))
parts_again (piece ∷ pieces) [] (suc n) index boundary bytes no_cr are few spelled = absurd cc
parts_again (piece ∷ []) (part ∷ other ∷ parts) (suc n) index boundary bytes no_cr are few spelled = absurd cc
parts_again (piece ∷ []) (part ∷ []) (suc n) index boundary bytes no_cr are few spelled =
    let tail = are.1 in
    let found = ending_last boundary (tail.0 ++ tail.1) (last_again boundary tail.0 tail.1 tail.2 tail.4) in
    let cut = ap (up_to (ending_at boundary)) tail.3 ∙ piece_cut boundary piece tail.0 tail.1 last no_cr are.0 (last_line boundary tail.0 no_cr tail.2) found in
    last_part n index boundary bytes piece part cut cc
parts_again (piece ∷ other ∷ pieces) (part ∷ parts) (suc n) index boundary bytes no_cr are few spelled =
    let tail = are.1 in
    let found = next_again boundary tail.0 tail.1 tail.2 tail.3 in
    let cut = ap (up_to (ending_at boundary)) tail.4 ∙ piece_cut boundary piece tail.0 tail.1 (next tail.1) no_cr are.0 (delimiter_line boundary tail.0 no_cr tail.2) found in
    let spelled_more : Spelled (other ∷ pieces) parts = cc in
    let more = parts_again (other ∷ pieces) parts n (index + 1) boundary tail.1 no_cr tail.5 (omega (arith, few)) spelled_more in
    next_part n index boundary bytes piece tail.1 part cut (cc) ∙ ap (also part) more

-- after the first delimiter
pub first_again : (boundary body rest : List ℕ) → NoCr boundary → (first : StandBehindFirst boundary body rest) → up_to (delimiter_at boundary) (crlf ++ body) ≡ Some (first.front, rest)
first_again boundary body rest no_cr first =
    let begins = delimiter_line boundary first.line no_cr first.is_line in
    let none = none_from_free (IsDelimiter boundary) (delimiter_at boundary) (delimiters_found boundary no_cr) first.front (begins.tail ++ rest) first.none_before in
    let none_here = subst (λ (l : List ℕ). NoneIn (delimiter_at boundary) first.front l) (sym (line_begins first.line rest begins)) none in
    ap (up_to (delimiter_at boundary)) first.body_is
    ∙ up_to_again (delimiter_at boundary) first.front (first.line ++ rest) rest (delimiter_again boundary first.line rest first.is_line first.goes_on) none_here

-- the parts of a body
pub body_again : (boundary body : List ℕ) (parts : List PartValue) → IsTrue (is_boundary boundary) → HasParts boundary body parts → parts_of boundary body ≡ Ok parts
body_again boundary body parts is has =
    let no_cr = no_cr_boundary boundary is in
    let cut = has.cut in
    let first : StandBehindFirst boundary body cut.rest = record {
      front = cut.front;
      line = cut.line;
      is_line = cut.is_line;
      goes_on = cut.goes_on;
      body_is = cut.body_is;
      none_before = cut.none_before;
    } in
    parts_behind boundary body (cut.front, cut.rest) (first_again boundary body cut.rest no_cr first)
    ∙ parts_again has.pieces parts max_parts 0 boundary cut.rest no_cr cut.parts has.few has.spelled
