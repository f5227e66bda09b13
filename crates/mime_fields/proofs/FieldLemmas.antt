-- The fields of a head, one after another, as a loop cuts them.
use Rattle.std.proofs.Common.{◌≡◌, ◌≢◌, ℕ, zero, suc, ◌-◌, ◌<◌, ◌≤◌, Bool, true, false, not, List, [], ◌∷◌, ◌++◌, length, Option, Some, None, option_map, refl, sym, ap, ◌∙◌, arith, inl, inr, append_assoc, append-nil, length-append, ◌==◌}
use Rattle.std.proofs.lemmas.Bool.{eqb-false, not-true}
use Rattle.std.proofs.lemmas.Option.{same_Some}
use Rattle.std.specs.List.{filter}
use Rattle.std.specs.Str.{str_eq_ignore_ascii_case}
use Rattle.byte_forms.specs.Cuts.{run_at, strip_prefix}
use Rattle.byte_forms.proofs.CutLemmas.{cases_option, bind_some, run_shortens, strip_prefix_takes}
use Rattle.mime_fields.specs.Fields.{Field, crlf, is_name_byte, field_at, fields_within, lines_within, at_most_one}
use Rattle.mime_fields.specs.Loops.{goes_on, content_at}
use Rattle.mime_fields.proofs.LineLemmas.{lines_whole}

pub field_shortens : (bytes : List ℕ) (x : Field × List ℕ) → field_at bytes ≡ Some x → length x.1 < length bytes
unfolding field_at
field_shortens bytes x e =
    bind_some (run_at is_name_byte bytes) _ x e λ name e0 f0.
    bind_some (strip_prefix (58 ∷ []) name.1) _ x f0 λ rest e1 f1.
    bind_some (lines_within (length rest) rest) _ x f1 λ lines e2 f2.
    let s0 = run_shortens is_name_byte bytes name e0 in
    let s1 : length name.1 ≡ suc (length rest) = ap length (strip_prefix_takes (58 ∷ []) name.1 rest e1) in
    let s2 = ap length (lines_whole (length rest) rest lines e2) in
    let same = ap (λ (y : Field × List ℕ). length y.1) (same_Some _ x f2) in
    omega (arith, length-append lines.0 (crlf ++ lines.1), length-append crlf lines.1)

-- ---- a limited number of fields

not_false : (b : Bool) → not b ≡ false → b ≡ true
not_false true e = refl
not_false false e = absurd cc

-- fields put before others
abbrev pub with_fields : List Field → List Field × List ℕ → List Field × List ℕ
with_fields front x = (front ++ x.0, x.1)

abbrev pub with_none : List ℕ → List Field × List ℕ
with_none content = ([], content)

pub ended : (n : ℕ) (bytes : List ℕ) → goes_on bytes ≡ false → fields_within n bytes ≡ option_map with_none (content_at bytes)
unfolding fields_within content_at
ended zero [] ends = refl
ended (suc n) [] ends = refl
ended zero (b ∷ bytes) ends = refl
ended (suc n) (b ∷ bytes) ends = let is : (b == 13) ≡ true = not_false (b == 13) ends in rw is refl

no_empty_line : (b : ℕ) (bytes : List ℕ) → (b == 13) ≡ false → strip_prefix crlf (b ∷ bytes) ≡ None
no_empty_line b bytes other = elim (cases_option (strip_prefix crlf (b ∷ bytes))) [
  | inl none ↦ none
  | inr some ↦
      let whole : b ∷ bytes ≡ 13 ∷ 10 ∷ some.0 = strip_prefix_takes crlf (b ∷ bytes) some.0 some.1 in
      let first : b ≡ 13 = cc in
      absurd (eqb-false b 13 other first)
]

pub too_many : (bytes : List ℕ) → goes_on bytes ≡ true → fields_within zero bytes ≡ None
unfolding fields_within
too_many [] on = absurd cc
too_many (b ∷ bytes) on = rw (no_empty_line b bytes (not-true (b == 13) on)) refl

pub one_within : (n : ℕ) (bytes : List ℕ) (x : Field × List ℕ) → goes_on bytes ≡ true → field_at bytes ≡ Some x → fields_within (suc n) bytes ≡ option_map (with_fields (x.0 ∷ [])) (fields_within n x.1)
unfolding fields_within
one_within n [] x on cut = absurd cc
one_within n (b ∷ bytes) x on cut = let other : (b == 13) ≡ false = not-true (b == 13) on in rw (other, cut) refl

pub none_within : (n : ℕ) (bytes : List ℕ) → goes_on bytes ≡ true → field_at bytes ≡ None → fields_within (suc n) bytes ≡ None
unfolding fields_within
none_within n [] on none = absurd cc
none_within n (b ∷ bytes) on none = let other : (b == 13) ≡ false = not-true (b == 13) on in rw (other, none) refl

-- these fields come first, followed by those of the rest
pub record GoOn (most : ℕ) (bytes : List ℕ) (front : List Field) (rest : List ℕ) : Type 0 where
  pub few : length front ≤ most
  pub all : fields_within most bytes ≡ option_map (λ x. (front ++ x.0, x.1)) (fields_within (most - length front) rest)

one_more : (front : List Field) (f : Field) (o : Option (List Field × List ℕ)) → option_map (with_fields front) (option_map (with_fields (f ∷ [])) o) ≡ option_map (with_fields (front ++ f ∷ [])) o
one_more front f None = refl
one_more front f (Some x) = rw (append_assoc front (f ∷ []) x.0) refl

pub none_yet : (most : ℕ) (bytes : List ℕ) → GoOn most bytes [] bytes
none_yet most bytes = record { few = omega arith; all = let whole : most - 0 ≡ most = omega arith in rw whole (same (fields_within most bytes)) }
  where
    same : (o : Option (List Field × List ℕ)) → o ≡ option_map (with_fields []) o
    same None = refl
    same (Some x) = refl

pub one_on : (most : ℕ) (bytes rest : List ℕ) (front : List Field) (x : Field × List ℕ) → goes_on rest ≡ true → length front ≢ most → field_at rest ≡ Some x → GoOn most bytes front rest → GoOn most bytes (front ++ x.0 ∷ []) x.1
one_on most bytes rest front x on room cut so_far =
    let len = length-append front (x.0 ∷ []) in
    let next : most - length front ≡ suc (most - length (front ++ x.0 ∷ [])) = omega (arith, so_far.few) in
    record {
      few = omega (arith, so_far.few);
      all = so_far.all
          ∙ ap (λ (n : ℕ). option_map (with_fields front) (fields_within n rest)) next
          ∙ ap (λ (o : Option (List Field × List ℕ)). option_map (with_fields front) o) (one_within (most - length (front ++ x.0 ∷ [])) rest x on cut)
          ∙ one_more front x.0 (fields_within (most - length (front ++ x.0 ∷ [])) x.1);
    }

with_content : (front : List Field) (o : Option (List ℕ)) → option_map (with_fields front) (option_map with_none o) ≡ option_map (λ content. (front, content)) o
with_content front None = refl
with_content front (Some content) = rw (append-nil front) refl

-- the fields are complete, and this is the content
pub all_of : (most : ℕ) (bytes rest : List ℕ) (front : List Field) (found : Option (List ℕ)) → goes_on rest ≡ false → found ≡ content_at rest → GoOn most bytes front rest → option_map (λ content. (front, content)) found ≡ fields_within most bytes
all_of most bytes rest front found ends content so_far =
    sym (so_far.all
    ∙ ap (λ (o : Option (List Field × List ℕ)). option_map (with_fields front) o) (ended (most - length front) rest ends)
    ∙ with_content front (content_at rest)
    ∙ ap (λ (o : Option (List ℕ)). option_map (λ content. (front, content)) o) (sym content))

pub full : (most : ℕ) (bytes rest : List ℕ) (front : List Field) → goes_on rest ≡ true → length front ≡ most → GoOn most bytes front rest → None ≡ fields_within most bytes
full most bytes rest front on all so_far =
    let nothing : most - length front ≡ zero = omega arith in
    sym (so_far.all ∙ ap (λ (n : ℕ). option_map (with_fields front) (fields_within n rest)) nothing ∙ ap (λ (o : Option (List Field × List ℕ)). option_map (with_fields front) o) (too_many rest on))

pub no_field : (most : ℕ) (bytes rest : List ℕ) (front : List Field) → goes_on rest ≡ true → length front ≢ most → field_at rest ≡ None → GoOn most bytes front rest → None ≡ fields_within most bytes
no_field most bytes rest front on room none so_far =
    let next : most - length front ≡ suc (most - length front - 1) = omega (arith, so_far.few) in
    sym (so_far.all ∙ ap (λ (n : ℕ). option_map (with_fields front) (fields_within n rest)) next ∙ ap (λ (o : Option (List Field × List ℕ)). option_map (with_fields front) o) (none_within (most - length front - 1) rest on none))

-- ---- the single field of a name

abbrev pub named : List ℕ → List Field → List Field
named name fields = filter (λ field. str_eq_ignore_ascii_case field.name name) fields

-- the single value, given the one found so far, if any, and the remaining fields of the name
abbrev pub one_of : Option (List ℕ) → List Field → Option (Option (List ℕ))
one_of None fields = at_most_one fields
one_of (Some value) [] = Some (Some value)
one_of (Some value) (field ∷ fields) = None
