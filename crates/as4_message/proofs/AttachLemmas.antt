-- Which part infos refer to a part of the package, and which refer to something else.
use Rattle.std.proofs.Common.{◌≡◌, ℕ, List, [], ◌∷◌, Bool, true, false, Option, Some, None, Result, Ok, Err, map, refl, sym, ap, ◌∙◌, inl, inr, cond}
use Rattle.std.specs.Prelude.{◌||◌, option_and_then}
use Rattle.std.specs.Option.{is_none}
use Rattle.std.specs.List.{list_any}
use Rattle.std.proofs.lemmas.Simd.{map-map}
use Rattle.as4_values.specs.declared.header.PartInfo.{PartInfo}
use Rattle.as4_values.specs.Pairing.{cid_in, named_by, are_paired}
use Rattle.mime_fields.specs.Fields.{PartValue}
use Rattle.byte_forms.proofs.CutLemmas.{cases_option}
use Rattle.as4_message.specs.Attached.{AttachedValue, is_inside, is_outside, all_attached, paired, attach, attached_value}
use Rattle.as4_message.specs.declared.error_codes.TheConstants.{EXTERNAL, INCONSISTENT, NOT_SUPPORTED}
use Rattle.as4_message.specs.declared.attachment.Attachment.{Attachment}

right_of : (a b : Bool) → (a || b) ≡ false → b ≡ false
right_of true b e = absurd cc
right_of false b e = e

none_of_rest : (cid : List ℕ) (rest : Option (List (List ℕ))) → is_none (option_and_then (λ cids. Some (cid ∷ cids)) rest) ≡ is_none rest
none_of_rest cid None = refl
none_of_rest cid (Some cids) = refl

-- if each part info refers to something that may be a part, a name is read from each exactly where none is outside
outside_is : (infos : List PartInfo) → list_any is_inside infos ≡ false → list_any is_outside infos ≡ is_none (named_by infos)
unfolding named_by
outside_is [] none = refl
outside_is (info ∷ infos) none =
    let later = outside_is infos (right_of (is_inside info) (list_any is_inside infos) none) in
    elim (cases_option info.href) [
      | inl nothing ↦ let other = rw nothing at none in absurd cc
      | inr href ↦ elim (cases_option (cid_in href.0)) [
        | inl other ↦ rw (href.1, other) refl
        | inr cid ↦ rw (href.1, cid.1) (later ∙ sym (none_of_rest cid.0 (named_by infos)))
      ]
    ]

-- the result of `attach` in the first two cases, and in the others
pub attach_inside : (infos : List PartInfo) (parts : List PartValue) → list_any is_inside infos ≡ true → attach infos parts ≡ Err NOT_SUPPORTED
unfolding attach
attach_inside infos parts inside = rw inside refl

pub attach_outside : (infos : List PartInfo) (parts : List PartValue) → list_any is_inside infos ≡ false → None ≡ named_by infos → attach infos parts ≡ Err EXTERNAL
unfolding attach
attach_outside infos parts none unnamed = rw (none, outside_is infos none, ← unnamed) refl

pub attach_paired : (infos : List PartInfo) (parts : List PartValue) (names : List (List ℕ)) → list_any is_inside infos ≡ false → Some names ≡ named_by infos → attach infos parts ≡ paired (Some names) (all_attached parts)
unfolding attach
attach_paired infos parts names none named = rw (none, outside_is infos none, ← named) refl

ids_are : (parts : List Attachment) → map (λ part. part.cid) (map attached_value parts) ≡ map (λ part. part.cid) parts
ids_are parts = map-map (λ part. part.cid) attached_value parts

pub paired_so : (names : List (List ℕ)) (parts : List Attachment) (found : Option (List AttachedValue)) → Some (map attached_value parts) ≡ found → are_paired (Some names) (map (λ part. part.cid) parts) ≡ true → Ok (map attached_value parts) ≡ paired (Some names) found
paired_so names parts found is paired_is = rw (← is, ids_are parts, paired_is) refl

pub not_paired_so : (names : List (List ℕ)) (parts : List Attachment) (found : Option (List AttachedValue)) → Some (map attached_value parts) ≡ found → are_paired (Some names) (map (λ part. part.cid) parts) ≡ false → Err INCONSISTENT ≡ paired (Some names) found
not_paired_so names parts found is other = rw (← is, ids_are parts, other) refl
