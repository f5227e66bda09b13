-- A body as the sequence of its pieces (RFC 2046, section 5.1.1): delimiters and parts, which joined are the body.
use Rattle.std.specs.Prelude.{◌≡◌, ℕ, ◌≤◌, List, [], ◌∷◌, ◌++◌, ◌⊎◌, Some, None, IsTrue, codes, length, drop, map}
use Rattle.std.specs.List.{list_all}
use Rattle.byte_forms.specs.Classes.{is_space}
use Rattle.mime_fields.specs.Fields.{PartValue, crlf, part_of}
use Rattle.mime_package.specs.Reading.{max_parts}

-- a line after the CRLF that begins it: two hyphens, the boundary, and blanks
pub record IsDelimiter (boundary line : List ℕ) : Type 0 where
  pub blanks : List ℕ
  pub blank : IsTrue (list_all is_space blanks)
  pub is : line ≡ crlf ++ (codes "--" ++ (boundary ++ blanks))

-- the same with two hyphens after the boundary
abbrev pub IsLastDelimiter : List ℕ → List ℕ → Type 0
IsLastDelimiter boundary line = IsDelimiter (boundary ++ codes "--") line

-- such a line, followed by a CRLF, occurs in the bytes
pub record Holds (is : List ℕ → Type 0) (bytes : List ℕ) : Type 0 where
  pub front : List ℕ
  pub line : List ℕ
  pub back : List ℕ
  pub is_line : is line
  pub bytes_are : bytes ≡ front ++ (line ++ (crlf ++ back))

-- bytes that begin with a CRLF
abbrev pub GoesOn : List ℕ → Type 0
GoesOn bytes = (more : List ℕ) × (bytes ≡ crlf ++ more)

-- the bytes between two delimiters: a part after its CRLF, or empty if the two share one. Together with the CRLF of the
-- second delimiter they contain neither a delimiter nor a last delimiter
pub record IsPiece (boundary piece : List ℕ) : Type 0 where
  pub begins : (piece ≡ []) ⊎ GoesOn piece
  pub whole : ¬ (Holds (IsDelimiter boundary) (piece ++ crlf))
  pub not_last : ¬ (Holds (IsLastDelimiter boundary) (piece ++ crlf))

-- after a delimiter come these pieces, separated by delimiters; then the last delimiter, at the end or followed by a
-- line
abbrev pub AreParts : List ℕ → List (List ℕ) → List ℕ → Type 0
AreParts boundary [] bytes = ⊥
AreParts boundary (piece ∷ []) bytes =
    IsPiece boundary piece
    × ((line : List ℕ) × (rest : List ℕ) × IsLastDelimiter boundary line × (bytes ≡ piece ++ (line ++ rest)) × ((rest ≡ []) ⊎ GoesOn rest))
AreParts boundary (piece ∷ other ∷ others) bytes =
    IsPiece boundary piece
    × ((line : List ℕ) × (rest : List ℕ) × IsDelimiter boundary line × GoesOn rest × (bytes ≡ piece ++ (line ++ rest)) × AreParts boundary (other ∷ others) rest)

-- the bytes before the first delimiter contain none; a delimiter at the body's first byte has no CRLF before it
pub record IsCut (boundary body : List ℕ) (pieces : List (List ℕ)) : Type 0 where
  pub front : List ℕ
  pub line : List ℕ
  pub rest : List ℕ
  pub is_line : IsDelimiter boundary line
  pub goes_on : GoesOn rest
  pub body_is : crlf ++ body ≡ front ++ (line ++ rest)
  pub none_before : ¬ (Holds (IsDelimiter boundary) (front ++ crlf))
  pub parts : AreParts boundary pieces rest

-- the parts of a body: each piece spells one
pub record HasParts (boundary body : List ℕ) (parts : List PartValue) : Type 0 where
  pub pieces : List (List ℕ)
  pub cut : IsCut boundary body pieces
  pub few : length pieces ≤ max_parts
  pub spelled : map (λ piece. part_of (drop 2 piece)) pieces ≡ map Some parts

-- after a delimiter come these pieces, each ended by a delimiter; the bytes after the last piece's delimiter begin with
-- its CRLF
abbrev pub ArePieces : List ℕ → List (List ℕ) → List ℕ → List ℕ → Type 0
ArePieces boundary [] bytes behind = bytes ≡ behind
ArePieces boundary (piece ∷ pieces) bytes behind =
    IsPiece boundary piece
    × ((line : List ℕ) × (rest : List ℕ) × IsDelimiter boundary line × GoesOn rest × (bytes ≡ piece ++ (line ++ rest)) × ArePieces boundary pieces rest behind)

-- these bytes contain neither a delimiter nor a last delimiter, even at their end: hence the appended CRLF
pub record HasNoEnd (boundary bytes : List ℕ) : Type 0 where
  pub no_delimiter : ¬ (Holds (IsDelimiter boundary) bytes)
  pub no_last : ¬ (Holds (IsLastDelimiter boundary) (bytes ++ crlf))

-- these bytes begin with a piece that is ended by either kind of delimiter, and that spells no part
pub record HasBadPiece (boundary bytes : List ℕ) : Type 0 where
  pub piece : List ℕ
  pub line : List ℕ
  pub rest : List ℕ
  pub is_piece : IsPiece boundary piece
  pub ended : (IsDelimiter boundary line × GoesOn rest) ⊎ (IsLastDelimiter boundary line × ((rest ≡ []) ⊎ GoesOn rest))
  pub bytes_are : bytes ≡ piece ++ (line ++ rest)
  pub no_part : part_of (drop 2 piece) ≡ None

-- these bytes follow the first delimiter, from its CRLF on
pub record StandBehindFirst (boundary body rest : List ℕ) : Type 0 where
  pub front : List ℕ
  pub line : List ℕ
  pub is_line : IsDelimiter boundary line
  pub goes_on : GoesOn rest
  pub body_is : crlf ++ body ≡ front ++ (line ++ rest)
  pub none_before : ¬ (Holds (IsDelimiter boundary) (front ++ crlf))

-- after the first delimiter come `count` pieces, each of which spells a part and is ended by a delimiter; and either
-- that is the maximum of a package, or nothing ends the bytes after them, or the next piece spells no part
pub record BreaksAt (boundary body : List ℕ) (count : ℕ) : Type 0 where
  pub rest : List ℕ
  pub first : StandBehindFirst boundary body rest
  pub pieces : List (List ℕ)
  pub behind : List ℕ
  pub are : ArePieces boundary pieces rest behind
  pub counted : length pieces ≡ count
  pub few : count ≤ max_parts
  pub parts : List PartValue
  pub spelled : map (λ piece. part_of (drop 2 piece)) pieces ≡ map Some parts
  pub breaks : (count ≡ max_parts) ⊎ (HasNoEnd boundary behind ⊎ HasBadPiece boundary behind)
