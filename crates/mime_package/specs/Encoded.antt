-- The part for which a package is refused because its content is encoded for transfer.
use Rattle.std.specs.Prelude.{◌≡◌, ℕ, List, ◌∷◌, ◌++◌, Some, IsTrue, length, not}
use Rattle.std.specs.List.{list_all}
use Rattle.mime_fields.specs.Fields.{PartValue}
use Rattle.mime_fields.specs.MediaTypes.{MediaType, media_type_of}
use Rattle.mime_package.specs.Pieces.{HasParts}
use Rattle.mime_package.specs.Reading.{boundary_of}

-- the part at this index is the first whose content is encoded
pub record IsFirstEncoded (parts : List PartValue) (index : ℕ) : Type 0 where
  pub before : List PartValue
  pub part : PartValue
  pub behind : List PartValue
  pub parts_are : parts ≡ before ++ (part ∷ behind)
  pub place : length before ≡ index
  pub plain : IsTrue (list_all (λ p. p.identity) before)
  pub encoded : IsTrue (not part.identity)

-- the media text names a boundary at which the body is cut into parts, and this is the first of them that is encoded
pub record EncodedAt (media body : List ℕ) (index : ℕ) : Type 0 where
  pub kind : MediaType
  pub media_is : media_type_of media ≡ Some kind
  pub boundary : List ℕ
  pub named : boundary_of kind.parameters ≡ Some boundary
  pub parts : List PartValue
  pub has : HasParts boundary body parts
  pub first : IsFirstEncoded parts index
