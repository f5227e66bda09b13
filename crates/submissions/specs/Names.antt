-- The names of the payloads of a submission, and the references to them (RFC 2392).
use Rattle.std.specs.Prelude.{◌≡◌, ℕ, ◌+◌, ◌≤◌, List, [], ◌++◌, Bool, not, ◌&&◌, ◌||◌, ◌==◌, nat_le, Some, IsTrue, length, map, codes}
use Rattle.std.specs.Fmt.{decimal}
use Rattle.std.specs.List.{All}
use Rattle.as4_values.specs.declared.header.PartInfo.{PartInfo}
use Rattle.exchange_model.specs.Submitting.{cids_of}

-- a byte that needs no escape in an identifier, in a document and in a URL
abbrev pub is_stem_byte : ℕ → Bool
is_stem_byte b = nat_le 33 b && nat_le b 126 && not ((b == 34) || (b == 37) || (b == 38) || (b == 60) || (b == 62))

abbrev pub IsStemByte : ℕ → Type 0
IsStemByte b = IsTrue (is_stem_byte b)

-- an identifier of such bytes, no longer than those of submissions
pub record IsStem (id : List ℕ) : Type 0 where
  pub limited : length id ≤ 61
  pub each : All IsStemByte id

-- the Content-ID at a place
unfoldable pub cid_at : List ℕ → ℕ → List ℕ
cid_at id k = decimal (k + 1) ++ codes "." ++ id

-- `count` part infos, each with the reference to its payload and nothing else
pub record ArePartsOf (id : List ℕ) (count : ℕ) (parts : List PartInfo) : Type 0 where
  pub hrefs : map (λ (part : PartInfo). part.href) parts ≡ map (λ cid. Some (codes "cid:" ++ cid)) (cids_of id count)
  pub bare : All (λ (part : PartInfo). part.properties ≡ []) parts
