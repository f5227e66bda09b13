-- The content of a part is what is left of the part's bytes after its fields.
use Rattle.std.proofs.Common.{◌≡◌, ℕ, zero, suc, ◌≤◌, List, [], ◌∷◌, Some, length, arith, ap}
use Rattle.std.specs.Prelude.{◌==◌, option_map, codes}
use Rattle.std.proofs.lemmas.Option.{same_Some}
use Rattle.byte_forms.specs.Cuts.{skip, run_at, strip_prefix}
use Rattle.byte_forms.proofs.CutLemmas.{bind_some, length-skip, run_shortens, strip_prefix_takes}
use Rattle.mime_fields.specs.Fields.{Field, PartValue, crlf, is_name_byte, is_line_byte, begins_with_space, lines_within, field_at, max_fields, fields_within, value_of, id_of, media_of, part_of}
use Rattle.coming_laws.proofs.ChoiceLemmas.{either, applied}

abbrev rest_length : {X : Type 0} → X × List ℕ → ℕ
rest_length x = length x.1

lines_rest : (n : ℕ) (bytes : List ℕ) (x : List ℕ × List ℕ) → lines_within n bytes ≡ Some x → rest_length x ≤ length bytes
unfolding lines_within
lines_rest zero bytes x e = absurd cc
lines_rest (suc n) bytes x e =
    bind_some (strip_prefix crlf (skip is_line_byte bytes)) _ x e λ next here rest.
    let line = length-skip is_line_byte bytes in
    let cut = ap (λ (l : List ℕ). length l) (strip_prefix_takes crlf (skip is_line_byte bytes) next here) in
    either (begins_with_space next) _ _ (Some x) rest
    (λ more. applied _ (lines_within n next) x more λ y found is. omega (arith, lines_rest n next y found, ap (λ (z : List ℕ × List ℕ). length z.1) is))
    (λ last. omega (arith, ap (λ (z : List ℕ × List ℕ). length z.1) (same_Some _ x last)))

field_rest : (bytes : List ℕ) (x : Field × List ℕ) → field_at bytes ≡ Some x → rest_length x ≤ length bytes
unfolding field_at
field_rest bytes x e =
    bind_some (run_at is_name_byte bytes) _ x e λ name e0 f0.
    bind_some (strip_prefix (codes ":") name.1) _ x f0 λ rest e1 f1.
    bind_some (lines_within (length rest) rest) _ x f1 λ lines e2 f2.
    omega (
      arith,
      run_shortens is_name_byte bytes name e0,
      ap (λ (l : List ℕ). length l) (strip_prefix_takes (codes ":") name.1 rest e1),
      lines_rest (length rest) rest lines e2,
      ap (λ (y : Field × List ℕ). length y.1) (same_Some _ x f2),
    )

content_after : (bytes : List ℕ) (x : List Field × List ℕ) → option_map (λ content. ([], content)) (strip_prefix crlf bytes) ≡ Some x → rest_length x ≤ length bytes
content_after bytes x e =
    applied _ (strip_prefix crlf bytes) x e λ content here is.
    omega (arith, ap (λ (l : List ℕ). length l) (strip_prefix_takes crlf bytes content here), ap (λ (y : List Field × List ℕ). length y.1) is)

fields_rest : (n : ℕ) (bytes : List ℕ) (x : List Field × List ℕ) → fields_within n bytes ≡ Some x → rest_length x ≤ length bytes
unfolding fields_within
fields_rest zero [] x e = omega (arith, ap (λ (y : List Field × List ℕ). length y.1) (same_Some _ x e))
fields_rest zero (b ∷ bytes) x e = content_after (b ∷ bytes) x e
fields_rest (suc n) [] x e = omega (arith, ap (λ (y : List Field × List ℕ). length y.1) (same_Some _ x e))
fields_rest (suc n) (b ∷ bytes) x e =
    either (b == 13) _ _ (Some x) e (content_after (b ∷ bytes) x) (λ on.
    bind_some (field_at (b ∷ bytes)) _ x on λ first here later.
    applied _ (fields_within n first.1) x later λ others found is.
    omega (arith, field_rest (b ∷ bytes) first here, fields_rest n first.1 others found, ap (λ (y : List Field × List ℕ). length y.1) is))

abbrev pub content_size : PartValue → ℕ
content_size part = length part.content

pub part_size : (bytes : List ℕ) (part : PartValue) → part_of bytes ≡ Some part → content_size part ≤ length bytes
unfolding part_of
part_size bytes part e =
    bind_some (fields_within max_fields bytes) _ part e λ head e0 f0.
    bind_some (value_of (codes "Content-ID") head.0) _ part f0 λ named e1 f1.
    bind_some (value_of (codes "Content-Type") head.0) _ part f1 λ typed e2 f2.
    bind_some (value_of (codes "Content-Transfer-Encoding") head.0) _ part f2 λ encoding e3 f3.
    bind_some (id_of named) _ part f3 λ id e4 f4.
    bind_some (media_of typed) _ part f4 λ media e5 f5.
    omega (arith, fields_rest max_fields bytes head e0, ap content_size (same_Some _ part f5))
