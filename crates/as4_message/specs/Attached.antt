-- How a header refers to the parts of its package (ebMS 3.0 Core, section 5.2.2.13; RFC 2392), and the error that
-- refuses it otherwise (ebMS 3.0 Core, section 6.7.1).
use Rattle.std.specs.Prelude.{ℕ, List, [], ◌∷◌, Bool, true, false, if◌then◌else◌, Option, Some, None, option_map, Result, Ok, Err, nat_eq, codes, map, is_none}
use Rattle.std.specs.List.{list_any, starts_with}
use Rattle.as4_values.specs.declared.header.PartInfo.{PartInfo}
use Rattle.as4_values.specs.Pairing.{cid_in, named_by, are_paired}
use Rattle.byte_forms.specs.Cuts.{◌>>=◌}
use Rattle.mime_fields.specs.Fields.{PartValue}
use Rattle.as4_message.specs.declared.attachment.Attachment.{Attachment}
use Rattle.as4_message.specs.declared.error_codes.TheConstants.{EXTERNAL, INCONSISTENT, NOT_SUPPORTED}

-- a part that has a Content-ID
pub record AttachedValue : Type 0 where
  pub cid : List ℕ
  pub media : List ℕ
  pub content : List ℕ

-- a borrowed part as a value, without its address in memory
abbrev pub attached_value : Attachment → AttachedValue
attached_value part = record { cid = part.cid; media = part.media; content = part.content.now }

abbrev pub attached : PartValue → Option AttachedValue
attached part = option_map (λ cid. record { cid = cid; media = part.media; content = part.content }) part.id

-- all parts, or `None` if one has no Content-ID
unfoldable pub all_attached : List PartValue → Option (List AttachedValue)
all_attached [] = Some []
all_attached (part ∷ parts) = attached part >>= λ first. option_map (λ others. first ∷ others) (all_attached parts)

-- a part info without a reference, which means the SOAP body (section 5.2.2.13), or with one into the envelope itself
abbrev pub is_inside : PartInfo → Bool
is_inside info = elim info.href [
  | None ↦ true
  | Some href ↦ starts_with nat_eq href (codes "#")
]

-- a part info whose reference names no Content-ID
abbrev pub is_outside : PartInfo → Bool
is_outside info = elim info.href [
  | None ↦ false
  | Some href ↦ is_none (cid_in href)
]

-- the parts, if each is named exactly once by its Content-ID; else INCONSISTENT
abbrev pub paired : Option (List (List ℕ)) → Option (List AttachedValue) → Result (List AttachedValue) ℕ
paired names None = Err INCONSISTENT
paired names (Some parts) = if are_paired names (map (λ part. part.cid) parts) then Ok parts else Err INCONSISTENT

-- the parts that the part infos refer to, or the first error
unfoldable pub attach : List PartInfo → List PartValue → Result (List AttachedValue) ℕ
attach infos parts =
    if list_any is_inside infos then Err NOT_SUPPORTED
    else if list_any is_outside infos then Err EXTERNAL
    else paired (named_by infos) (all_attached parts)
