-- The fields and the content that are read from a part were written there.
use Rattle.std.proofs.Common.{◌≡◌, ℕ, zero, suc, ◌≤◌, true, List, [], ◌∷◌, ◌++◌, length, map, Option, Some, None, option_map, All, refl, sym, ap, subst, ◌∙◌, arith, inl, inr, append_assoc, append-nil}
use Rattle.std.specs.Prelude.{IsTrue}
use Rattle.std.specs.List.{list_all, take_while, flat_map, filter}
use Rattle.std.proofs.lemmas.Bool.{cases_Bool, and_parts}
use Rattle.std.proofs.lemmas.Option.{same_Some}
use Rattle.std.proofs.lemmas.List.Elements.{All-nil, All-cons, All-head, All-tail, filter-append}
use Rattle.byte_forms.specs.Cuts.{skip, run_at, strip_prefix}
use Rattle.byte_forms.proofs.CutLemmas.{cases_option, bind_some, run_passes, run_takes, strip_prefix_takes}
use Rattle.mime_fields.specs.Fields.{Field, crlf, is_name_byte, is_line_byte, begins_with_space, lines_within, trimmed, unfolded, field_at, fields_within, max_fields}
use Rattle.mime_fields.specs.Loops.{goes_on, content_at}
use Rattle.mime_fields.specs.WrittenParts.{WrittenField, field_text, content_text, field_meant, content_meant, IsLine, IsField, HasFields}
use Rattle.mime_fields.proofs.LineLemmas.{within_none, lines_none, lines_last, lines_more, with_line, lines_whole}
use Rattle.mime_fields.proofs.FieldLemmas.{with_fields, with_none, ended, too_many, one_within, none_within}

-- a line that continues a field
abbrev pub IsFolded : List ℕ → Type 0
IsFolded line = IsLine line × IsTrue (begins_with_space line)

-- lines, each after a line end
abbrev pub folds : List (List ℕ) → List ℕ
folds folded = flat_map (λ line. crlf ++ line) folded

-- ---- lines

record LinesTaken (x : List ℕ × List ℕ) : Type 0 where
  line : List ℕ
  folded : List (List ℕ)
  is : IsLine line
  each : All IsFolded folded
  text : x.0 ≡ line ++ folds folded

-- lines that begin with a space have it in their first line
line_begins : (line : List ℕ) (folded : List (List ℕ)) (rest : List ℕ) → begins_with_space ((line ++ folds folded) ++ (crlf ++ rest)) ≡ true → begins_with_space line ≡ true
line_begins [] [] rest is = absurd cc
line_begins [] (next ∷ folded) rest is = absurd cc
line_begins (b ∷ line) folded rest is = is

more_taken : (bytes next : List ℕ) (o : Option (List ℕ × List ℕ)) (x : List ℕ × List ℕ) → begins_with_space next ≡ true → ((y : List ℕ × List ℕ) → o ≡ Some y → LinesTaken y) → ((y : List ℕ × List ℕ) → o ≡ Some y → next ≡ y.0 ++ (crlf ++ y.1)) → option_map (with_line bytes) o ≡ Some x → LinesTaken x
more_taken bytes next None x begins taken whole e = absurd cc
more_taken bytes next (Some y) x begins taken whole e =
    let inner = taken y refl in
    let parts : next ≡ (inner.line ++ folds inner.folded) ++ (crlf ++ y.1) = whole y refl ∙ ap (λ (r : List ℕ). r ++ (crlf ++ y.1)) inner.text in
    let space : begins_with_space inner.line ≡ true = line_begins inner.line inner.folded y.1 (ap begins_with_space (sym parts) ∙ begins) in
    subst (λ (z : List ℕ × List ℕ). LinesTaken z) (same_Some (with_line bytes y) x e) (record {
      line = take_while is_line_byte bytes;
      folded = inner.line ∷ inner.folded;
      is = run_passes is_line_byte bytes;
      each = All-cons IsFolded inner.line inner.folded (inner.is, space) inner.each;
      text = ap (λ (r : List ℕ). take_while is_line_byte bytes ++ (crlf ++ r)) inner.text;
    })

lines_take : (n : ℕ) (bytes : List ℕ) (x : List ℕ × List ℕ) → lines_within n bytes ≡ Some x → LinesTaken x
lines_take zero bytes x e = let none = within_none bytes in absurd cc
lines_take (suc n) bytes x e = elim (cases_option (strip_prefix crlf (skip is_line_byte bytes))) [
  | inl none ↦ let nothing = lines_none (suc n) bytes none in absurd cc
  | inr some ↦ elim (cases_Bool (begins_with_space some.0)) [
    | inl more ↦ more_taken bytes some.0 (lines_within n some.0) x more (lines_take n some.0) (lines_whole n some.0) (sym (lines_more n bytes some.0 some.1 more) ∙ e)
    | inr last ↦ subst (λ (z : List ℕ × List ℕ). LinesTaken z) (same_Some (take_while is_line_byte bytes, some.0) x (sym (lines_last n bytes some.0 some.1 last) ∙ e)) (record {
      line = take_while is_line_byte bytes;
      folded = [];
      is = run_passes is_line_byte bytes;
      each = All-nil IsFolded;
      text = sym (append-nil (take_while is_line_byte bytes));
    })
  ]
]

filter-line : (line : List ℕ) → IsLine line → filter is_line_byte line ≡ line
filter-line [] is = refl
filter-line (b ∷ line) is =
    let split = and_parts (is_line_byte b) (list_all is_line_byte line) is in
    rw (split.0, filter-line line split.1) refl

filter-folds : (folded : List (List ℕ)) → All IsFolded folded → filter is_line_byte (folds folded) ≡ flat_map (λ line. line) folded
filter-folds [] each = refl
filter-folds (line ∷ folded) each =
    filter-append is_line_byte line (folds folded) ∙ rw (filter-line line (All-head IsFolded line folded each).0, filter-folds folded (All-tail IsFolded line folded each)) refl

-- the unfolded lines
pub unfolded_meant : (line : List ℕ) (folded : List (List ℕ)) → IsLine line → All IsFolded folded → unfolded (line ++ folds folded) ≡ trimmed (line ++ flat_map (λ line. line) folded)
unfolding unfolded
unfolded_meant line folded is each =
    ap trimmed (filter-append is_line_byte line (folds folded) ∙ rw (filter-line line is, filter-folds folded each) refl)

-- ---- fields

pub field_text-append : (f : WrittenField) (rest : List ℕ) → field_text f ++ rest ≡ f.name ++ (58 ∷ (f.line ++ (folds f.folded ++ (crlf ++ rest))))
field_text-append f rest = regroup f.name f.line (folds f.folded) crlf rest
  where
    regroup : (name line folded ends rest : List ℕ) → (name ++ (58 ∷ (line ++ (folded ++ ends)))) ++ rest ≡ name ++ (58 ∷ (line ++ (folded ++ (ends ++ rest))))
    regroup name line folded ends rest = simp append_assoc

record FieldTaken (bytes : List ℕ) (x : Field × List ℕ) : Type 0 where
  written : WrittenField
  is : IsField written
  means : field_meant written ≡ x.0
  whole : bytes ≡ field_text written ++ x.1

field_takes : (bytes : List ℕ) (x : Field × List ℕ) → field_at bytes ≡ Some x → FieldTaken bytes x
unfolding field_at
field_takes bytes x e =
    bind_some (run_at is_name_byte bytes) _ x e λ name e0 f0.
    bind_some (strip_prefix (58 ∷ []) name.1) _ x f0 λ rest e1 f1.
    bind_some (lines_within (length rest) rest) _ x f1 λ lines e2 f2.
    let t0 = run_takes is_name_byte bytes name e0 in
    let t1 = strip_prefix_takes (58 ∷ []) name.1 rest e1 in
    let t2 = lines_take (length rest) rest lines e2 in
    let f : WrittenField = record { name = name.0; line = t2.line; folded = t2.folded } in
    let last : rest ≡ t2.line ++ (folds t2.folded ++ (crlf ++ lines.1)) = lines_whole (length rest) rest lines e2 ∙ ap (λ (r : List ℕ). r ++ (crlf ++ lines.1)) t2.text ∙ append_assoc t2.line (folds t2.folded) (crlf ++ lines.1) in
    let whole : bytes ≡ name.0 ++ (58 ∷ (t2.line ++ (folds t2.folded ++ (crlf ++ lines.1)))) = t0.0 ∙ ap (λ (r : List ℕ). name.0 ++ r) (t1 ∙ ap (λ (r : List ℕ). 58 ∷ r) last) in
    let made : Field = record { name = name.0; value = unfolded lines.0 } in
    let value : unfolded lines.0 ≡ trimmed (t2.line ++ flat_map (λ line. line) t2.folded) = ap unfolded t2.text ∙ unfolded_meant t2.line t2.folded t2.is t2.each in
    let means : field_meant f ≡ made = ap (λ (v : List ℕ). let g : Field = record { name = name.0; value = v } in g) (sym value) in
    subst (λ (y : Field × List ℕ). FieldTaken bytes y) (same_Some (made, lines.1) x f2) (record {
      written = f;
      is = record { some = t0.1.0; name = t0.1.1; line = t2.is; folded = t2.each };
      means = means;
      whole = whole ∙ sym (field_text-append f lines.1);
    })

record ContentTaken (bytes content : List ℕ) : Type 0 where
  written : Option (List ℕ)
  means : content_meant written ≡ content
  whole : bytes ≡ content_text written

content_takes : (bytes content : List ℕ) → content_at bytes ≡ Some content → ContentTaken bytes content
unfolding content_at
content_takes [] content e = record { written = None; means = same_Some [] content e; whole = refl }
content_takes (b ∷ bytes) content e = record { written = Some content; means = refl; whole = strip_prefix_takes crlf (b ∷ bytes) content e }

record FieldsTaken (most : ℕ) (bytes : List ℕ) (x : List Field × List ℕ) : Type 0 where
  fields : List WrittenField
  content : Option (List ℕ)
  each : All IsField fields
  few : length fields ≤ most
  means : map field_meant fields ≡ x.0
  content_is : content_meant content ≡ x.1
  whole : bytes ≡ flat_map field_text fields ++ content_text content

no_fields : (most : ℕ) (bytes : List ℕ) (o : Option (List ℕ)) (x : List Field × List ℕ) → ((content : List ℕ) → o ≡ Some content → ContentTaken bytes content) → option_map with_none o ≡ Some x → FieldsTaken most bytes x
no_fields most bytes None x taken e = absurd cc
no_fields most bytes (Some content) x taken e =
    let c = taken content refl in
    subst (λ (z : List Field × List ℕ). FieldsTaken most bytes z) (same_Some (with_none content) x e) (record { fields = []; content = c.written; each = All-nil IsField; few = omega arith; means = refl; content_is = c.means; whole = c.whole })

one_more : (most : ℕ) (bytes : List ℕ) (first : Field × List ℕ) (o : Option (List Field × List ℕ)) (x : List Field × List ℕ) → FieldTaken bytes first → ((y : List Field × List ℕ) → o ≡ Some y → FieldsTaken most first.1 y) → option_map (with_fields (first.0 ∷ [])) o ≡ Some x → FieldsTaken (suc most) bytes x
one_more most bytes first None x one taken e = absurd cc
one_more most bytes first (Some y) x one taken e =
    let others = taken y refl in
    subst (λ (z : List Field × List ℕ). FieldsTaken (suc most) bytes z) (same_Some (with_fields (first.0 ∷ []) y) x e) (record {
      fields = one.written ∷ others.fields;
      content = others.content;
      each = All-cons IsField one.written others.fields one.is others.each;
      few = omega (arith, others.few);
      means = cc (one.means, others.means);
      content_is = others.content_is;
      whole = one.whole ∙ ap (λ (r : List ℕ). field_text one.written ++ r) others.whole ∙ sym (append_assoc (field_text one.written) (flat_map field_text others.fields) (content_text others.content));
    })

fields_take : (n : ℕ) (bytes : List ℕ) (x : List Field × List ℕ) → fields_within n bytes ≡ Some x → FieldsTaken n bytes x
fields_take zero bytes x e = elim (cases_Bool (goes_on bytes)) [
  | inl on ↦ let nothing = too_many bytes on in absurd cc
  | inr ends ↦ no_fields zero bytes (content_at bytes) x (content_takes bytes) (sym (ended zero bytes ends) ∙ e)
]
fields_take (suc n) bytes x e = elim (cases_Bool (goes_on bytes)) [
  | inl on ↦ elim (cases_option (field_at bytes)) [
    | inl none ↦ let nothing = none_within n bytes on none in absurd cc
    | inr some ↦ one_more n bytes some.0 (fields_within n some.0.1) x (field_takes bytes some.0 some.1) (fields_take n some.0.1) (sym (one_within n bytes some.0 on some.1) ∙ e)
  ]
  | inr ends ↦ no_fields (suc n) bytes (content_at bytes) x (content_takes bytes) (sym (ended (suc n) bytes ends) ∙ e)
]

-- a head that is read was written there
pub head_takes : (bytes : List ℕ) (fields : List Field) (content : List ℕ) → fields_within max_fields bytes ≡ Some (fields, content) → HasFields bytes fields content
head_takes bytes fields content e =
    let taken = fields_take max_fields bytes (fields, content) e in
    record {
      written = record { fields = taken.fields; content = taken.content };
      is = record { fields = taken.each; few = taken.few };
      bytes_are = taken.whole;
      means = taken.means;
      content_is = taken.content_is;
    }
