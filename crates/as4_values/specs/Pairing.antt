-- Which payloads a header names (ebMS 3.0 Core, section 5.2.2.13; RFC 2392).
use Rattle.std.specs.Prelude.{ℕ, List, [], ◌∷◌, Bool, true, false, not, ◌&&◌, if◌then◌else◌, Option, Some, None, option_and_then, map, take, drop, codes, bytes_eq}
use Rattle.std.specs.List.{list_all, list_any}
use Rattle.std.specs.Str.{str_eq_ignore_ascii_case}
use Rattle.percent_encoding.specs.Percent.{percent_decode}
use Rattle.as4_values.specs.declared.header.PartInfo.{PartInfo}
use Rattle.as4_values.specs.declared.payload.Payload.{Payload}

-- the Content-ID that a reference names: the bytes after `cid:` (in any case), with their escapes resolved
unfoldable pub cid_in : List ℕ → Option (List ℕ)
cid_in href =
    if str_eq_ignore_ascii_case (take 4 href) (codes "cid:") then Some (percent_decode (drop 4 href)) else None

-- the Content-IDs that the part infos name; None where a part info names none
unfoldable pub named_by : List PartInfo → Option (List (List ℕ))
named_by [] = Some []
named_by (part ∷ parts) =
    option_and_then (λ cid. option_and_then (λ cids. Some (cid ∷ cids)) (named_by parts)) (option_and_then cid_in part.href)

abbrev pub is_among : List (List ℕ) → List ℕ → Bool
is_among cids cid = list_any (bytes_eq cid) cids

unfoldable pub all_differ : List (List ℕ) → Bool
all_differ [] = true
all_differ (cid ∷ cids) = not (is_among cids cid) && all_differ cids

-- the same Content-IDs, none of them twice
abbrev pub are_paired : Option (List (List ℕ)) → List (List ℕ) → Bool
are_paired None cids = false
are_paired (Some names) cids =
    all_differ names && (all_differ cids && (list_all (is_among cids) names && list_all (is_among names) cids))

-- each part info names a payload, each payload is named, and none is named twice
unfoldable pub pair : List PartInfo → List Payload → Bool
pair parts payloads = are_paired (named_by parts) (map (λ payload. payload.cid) payloads)
