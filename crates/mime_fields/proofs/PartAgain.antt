-- A written part is read back.
use Rattle.std.proofs.Common.{◌≡◌, ℕ, zero, suc, ◌<◌, ◌≤◌, true, false, not, List, [], ◌∷◌, ◌++◌, length, map, Option, Some, None, option_map, All, refl, ap, ◌∙◌, arith, append_assoc, append-nil, length-append, ◌==◌, ltb}
use Rattle.std.specs.Prelude.{IsTrue, ◌&&◌}
use Rattle.std.specs.List.{list_all, flat_map}
use Rattle.std.proofs.lemmas.Bool.{and_parts, ltb-true, ne_eqb}
use Rattle.std.proofs.lemmas.List.Elements.{All-head, All-tail}
use Rattle.byte_forms.specs.Classes.{is_space}
use Rattle.byte_forms.specs.Cuts.{skip, strip_prefix}
use Rattle.byte_forms.proofs.CutLemmas.{take_again, skip_again, run_again, strip_prefix_again}
use Rattle.mime_fields.specs.Fields.{Field, crlf, is_name_byte, is_line_byte, begins_with_space, lines_within, field_at, fields_within, max_fields}
use Rattle.mime_fields.specs.Loops.{goes_on, content_at}
use Rattle.mime_fields.specs.WrittenParts.{WrittenField, WrittenPart, field_text, content_text, part_text, field_meant, content_meant, IsLine, IsField, IsPart, HasFields}
use Rattle.mime_fields.proofs.LineLemmas.{lines_last, lines_more}
use Rattle.mime_fields.proofs.FieldLemmas.{with_fields, ended, one_within}
use Rattle.mime_fields.proofs.PartTakes.{IsFolded, folds, unfolded_meant, field_text-append}

-- ---- lines

line_cut : (line next : List ℕ) → IsLine line → strip_prefix crlf (skip is_line_byte (line ++ (crlf ++ next))) ≡ Some next
line_cut line next is = ap (strip_prefix crlf) (skip_again is_line_byte line (crlf ++ next) is refl) ∙ strip_prefix_again crlf next

goes_on_so : (line rest : List ℕ) → begins_with_space line ≡ true → begins_with_space (line ++ rest) ≡ true
goes_on_so [] rest is = absurd cc
goes_on_so (b ∷ line) rest is = is

lines_again : (n : ℕ) (line : List ℕ) (folded : List (List ℕ)) (rest : List ℕ) → length folded < n → IsLine line → All IsFolded folded → begins_with_space rest ≡ false
    → lines_within n (line ++ (folds folded ++ (crlf ++ rest))) ≡ Some (line ++ folds folded, rest)
lines_again zero line folded rest few is each ends = absurd (omega arith)
lines_again (suc n) line [] rest few is each ends =
    lines_last n (line ++ (crlf ++ rest)) rest (line_cut line rest is) ends ∙ rw (take_again is_line_byte line (crlf ++ rest) is refl, append-nil line) refl
lines_again (suc n) line (next ∷ folded) rest few is each ends =
    let first = All-head IsFolded next folded each in
    let behind_it : List ℕ = next ++ (folds folded ++ (crlf ++ rest)) in
    ap (λ (r : List ℕ). lines_within (suc n) (line ++ (crlf ++ r))) (append_assoc next (folds folded) (crlf ++ rest))
    ∙ lines_more n (line ++ (crlf ++ behind_it)) behind_it (line_cut line behind_it is) (goes_on_so next (folds folded ++ (crlf ++ rest)) first.1)
    ∙ rw (lines_again n next folded rest (omega arith) first.0 (All-tail IsFolded next folded each) ends, take_again is_line_byte line (crlf ++ behind_it) is refl) refl

-- ---- fields

length-folds : (folded : List (List ℕ)) → length folded ≤ length (folds folded)
length-folds [] = omega arith
length-folds (line ∷ folded) = omega (arith, length-append (crlf ++ line) (folds folded), length-append crlf line, length-folds folded)

field_again : (f : WrittenField) (rest : List ℕ) → IsField f → begins_with_space rest ≡ false → field_at (field_text f ++ rest) ≡ Some (field_meant f, rest)
unfolding field_at
field_again f rest is ends =
    let lines : List ℕ = f.line ++ (folds f.folded ++ (crlf ++ rest)) in
    let few : length f.folded < length lines = omega (arith, length-append f.line (folds f.folded ++ (crlf ++ rest)), length-append (folds f.folded) (crlf ++ rest), length-append crlf rest, length-folds f.folded) in
    rw (
      field_text-append f rest,
      run_again is_name_byte f.name (58 ∷ lines) (is.some, is.name) refl,
      strip_prefix_again (58 ∷ []) lines,
      lines_again (length lines) f.line f.folded rest few is.line is.folded ends,
      unfolded_meant f.line f.folded is.line is.folded,
    ) refl

-- ---- heads

name_above : (b : ℕ) → is_name_byte b ≡ true → 32 < b
name_above b is = ltb-true 32 b (and_parts (ltb 32 b) (ltb b 127) (and_parts (ltb 32 b && ltb b 127) (not (b == 58)) is).0).0

-- a name byte is no space, and doesn't begin an empty line
no_space : (b : ℕ) → 32 < b → is_space b ≡ false
no_space b above = rw (ne_eqb b 32 (λ is. omega arith), ne_eqb b 9 (λ is. omega arith)) refl

name_begins : (f : WrittenField) (rest : List ℕ) → IsField f → (b : ℕ) × (more : List ℕ) × (field_text f ++ rest ≡ b ∷ more) × (32 < b)
name_begins f rest is = begins f.name refl is.some is.name
  where
    begins : (name : List ℕ) → f.name ≡ name → 0 < length name → IsTrue (list_all is_name_byte name) → (b : ℕ) × (more : List ℕ) × (field_text f ++ rest ≡ b ∷ more) × (32 < b)
    begins [] same some pass = absurd (omega arith)
    begins (b ∷ name) same some pass = (
      b,
      name ++ (58 ∷ (f.line ++ (folds f.folded ++ (crlf ++ rest)))),
      field_text-append f rest ∙ ap (λ (n : List ℕ). n ++ (58 ∷ (f.line ++ (folds f.folded ++ (crlf ++ rest))))) same,
      name_above b (and_parts (is_name_byte b) (list_all is_name_byte name) pass).0,
    )

field_goes_on : (f : WrittenField) (rest : List ℕ) → IsField f → goes_on (field_text f ++ rest) ≡ true
field_goes_on f rest is =
    let begins = name_begins f rest is in
    ap goes_on begins.2 ∙ rw (ne_eqb begins.0 13 (λ cr. omega (arith, begins.3))) refl

-- a field is followed by another field, an empty line or the end
no_line_on : (fields : List WrittenField) (content : Option (List ℕ)) → All IsField fields → begins_with_space (flat_map field_text fields ++ content_text content) ≡ false
no_line_on [] None each = refl
no_line_on [] (Some content) each = refl
no_line_on (f ∷ fields) content each =
    let begins = name_begins f (flat_map field_text fields ++ content_text content) (All-head IsField f fields each) in
    ap begins_with_space (append_assoc (field_text f) (flat_map field_text fields) (content_text content) ∙ begins.2) ∙ no_space begins.0 begins.3

content_ends : (content : Option (List ℕ)) → goes_on (content_text content) ≡ false
content_ends None = refl
content_ends (Some content) = refl

content_again : (content : Option (List ℕ)) → content_at (content_text content) ≡ Some (content_meant content)
unfolding content_at
content_again None = refl
content_again (Some content) = strip_prefix_again crlf content

fields_again : (n : ℕ) (fields : List WrittenField) (content : Option (List ℕ)) → length fields ≤ n → All IsField fields
    → fields_within n (flat_map field_text fields ++ content_text content) ≡ Some (map field_meant fields, content_meant content)
fields_again n [] content few each = ended n (content_text content) (content_ends content) ∙ rw (content_again content) refl
fields_again zero (f ∷ fields) content few each = absurd (omega arith)
fields_again (suc n) (f ∷ fields) content few each =
    let more : List ℕ = flat_map field_text fields ++ content_text content in
    let is = All-head IsField f fields each in
    let others = All-tail IsField f fields each in
    ap (fields_within (suc n)) (append_assoc (field_text f) (flat_map field_text fields) (content_text content))
    ∙ one_within n (field_text f ++ more) (field_meant f, more) (field_goes_on f more is) (field_again f more is (no_line_on fields content others))
    ∙ ap (λ (o : Option (List Field × List ℕ)). option_map (with_fields (field_meant f ∷ [])) o) (fields_again n fields content (omega arith) others)

-- a written head is read back
pub part_again : (w : WrittenPart) → IsPart w → fields_within max_fields (part_text w) ≡ Some (map field_meant w.fields, content_meant w.content)
part_again w is = fields_again max_fields w.fields w.content is.few is.fields

pub fields_are_read : (bytes : List ℕ) (fields : List Field) (content : List ℕ) → HasFields bytes fields content → fields_within max_fields bytes ≡ Some (fields, content)
fields_are_read bytes fields content is =
    ap (fields_within max_fields) is.bytes_are ∙ part_again is.written is.is ∙ both is.means is.content_is
  where
    both : {fs gs : List Field} {c d : List ℕ} → fs ≡ gs → c ≡ d → ◌≡◌ {A = Option (List Field × List ℕ)} (Some (fs, c)) (Some (gs, d))
    both e f = cc
