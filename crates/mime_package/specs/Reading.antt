-- How a package is read (RFC 2046, section 5.1; RFC 2387, section 3): its media text names the boundary that cuts its
-- body into parts, and the part that is the root.
use Rattle.std.specs.Prelude.{ℕ, zero, suc, ◌+◌, List, [], ◌∷◌, ◌++◌, Bool, false, not, ◌&&◌, ◌||◌, ◌==◌, nat_lt, nat_le, nat_eq, if◌then◌else◌, Option, Some, None, option_map, Result, Ok, Err, bytes_eq, codes, length, drop}
use Rattle.std.specs.List.{list_all, list_any, starts_with, ends_with}
use Rattle.std.specs.Str.{str_eq_ignore_ascii_case}
use Rattle.byte_forms.specs.Classes.{is_space}
use Rattle.byte_forms.specs.Cuts.{◌>>=◌, skip, strip_prefix}
use Rattle.mime_fields.specs.MediaTypes.{Parameter, MediaType, media_type_of, is_type, is_named, names_differ}
use Rattle.mime_fields.specs.Fields.{PartValue, crlf, part_of, without_brackets}
use Rattle.mime_package.specs.declared.read.MimeRefusal.{MimeRefusal}
use Rattle.mime_package.specs.declared.read.MimeRefusal.TheVariants.{BadType, NoBoundary, BadPart, NoRoot, Encoding}

-- the root of a package, and its other parts
pub record PackageValue : Type 0 where
  pub root : List ℕ
  pub parts : List PartValue

-- Media texts.

-- the value of the first parameter of this name
unfoldable pub parameter : List ℕ → List Parameter → Option (List ℕ)
parameter name [] = None
parameter name (p ∷ others) = if is_named name p then Some p.value else parameter name others

-- a character set of envelopes
abbrev pub is_charset : List ℕ → Bool
is_charset value = str_eq_ignore_ascii_case value (codes "utf-8") || str_eq_ignore_ascii_case value (codes "us-ascii")

-- the media type of an envelope in a supported character set
unfoldable pub is_envelope : MediaType → Bool
is_envelope m =
    is_type (codes "application") (codes "soap+xml") m
    && list_all (λ p. not (is_named (codes "charset") p) || is_charset p.value) m.parameters

-- a boundary has 1 to 70 characters, the last of which is no space (RFC 2046, section 5.1.1)
abbrev pub is_boundary_byte : ℕ → Bool
is_boundary_byte b =
    (nat_le 48 b && nat_le b 57) || (nat_le 65 b && nat_le b 90) || (nat_le 97 b && nat_le b 122)
    || list_any (λ c. b == c) (codes " '()+_,-./:=?")

unfoldable pub is_boundary : List ℕ → Bool
is_boundary bytes =
    nat_lt 0 (length bytes) && (nat_le (length bytes) 70
    && (list_all is_boundary_byte bytes && not (ends_with nat_eq bytes (codes " "))))

unfoldable pub boundary_of : List Parameter → Option (List ℕ)
boundary_of parameters = do
  value ← parameter (codes "boundary") parameters
  if is_boundary value then Some value else None

-- Delimiters.

-- the end of a line after blanks: the bytes after the blanks, which begin with the line's CRLF
unfoldable pub line_end : List ℕ → Option (List ℕ)
line_end bytes = option_map (λ more. skip is_space bytes) (strip_prefix crlf (skip is_space bytes))

-- a delimiter: CRLF, two hyphens, the boundary, and blanks. The result is the rest, which begins with the delimiter's
-- CRLF; the next delimiter may share it
unfoldable pub delimiter_at : List ℕ → List ℕ → Option (List ℕ)
delimiter_at boundary bytes = strip_prefix (crlf ++ (codes "--" ++ boundary)) bytes >>= line_end

-- the last delimiter has two more hyphens, and may be at the end of the body
abbrev pub is_line_end : List ℕ → Bool
is_line_end bytes = (length bytes == 0) || starts_with nat_eq bytes crlf

unfoldable pub is_last_at : List ℕ → List ℕ → Bool
is_last_at boundary bytes = elim (strip_prefix (crlf ++ (codes "--" ++ (boundary ++ codes "--"))) bytes) [
  | None ↦ false
  | Some rest ↦ is_line_end (skip is_space rest)
]

-- the end of a part: the last delimiter, or a delimiter with the bytes after it
pub data Ending : Type 0 where
  last : Ending
  next : List ℕ → Ending

unfoldable pub ending_at : List ℕ → List ℕ → Option Ending
ending_at boundary bytes = if is_last_at boundary bytes then Some last else option_map next (delimiter_at boundary bytes)

-- the bytes before the first place where something is found, and the result there
unfoldable pub up_to : {X : Type 0} → (List ℕ → Option X) → List ℕ → Option (List ℕ × X)
up_to found [] = option_map (λ x. ([], x)) (found [])
up_to found (b ∷ bytes) = elim (found (b ∷ bytes)) [
  | Some x ↦ Some ([], x)
  | None ↦ option_map (λ cut. (b ∷ cut.0, cut.1)) (up_to found bytes)
]

-- Parts.

-- the maximum number of parts of a package: a limit of this reader
abbrev pub max_parts : ℕ
max_parts = 256

abbrev pub also : PartValue → Result (List PartValue) MimeRefusal → Result (List PartValue) MimeRefusal
also part (Ok parts) = Ok (part ∷ parts)
also part (Err refusal) = Err refusal

-- at most n parts after a delimiter, the first of which has this index; the bytes begin with the delimiter's CRLF
unfoldable pub parts_within : ℕ → ℕ → List ℕ → List ℕ → Result (List PartValue) MimeRefusal
parts_within zero index boundary bytes = Err (BadPart index)
parts_within (suc n) index boundary bytes = elim (up_to (ending_at boundary) bytes) [
  | None ↦ Err (BadPart index)
  | Some cut ↦ elim (part_of (drop 2 cut.0)) [
    | None ↦ Err (BadPart index)
    | Some part ↦ elim cut.1 [
      | last ↦ Ok (part ∷ [])
      | next rest ↦ also part (parts_within n (index + 1) boundary rest)
    ]
  ]
]

-- the parts of a body; a delimiter at the body's first byte has no CRLF before it
unfoldable pub parts_of : List ℕ → List ℕ → Result (List PartValue) MimeRefusal
parts_of boundary body = elim (up_to (delimiter_at boundary) (crlf ++ body)) [
  | None ↦ Err NoBoundary
  | Some cut ↦ parts_within max_parts 0 boundary cut.1
]

-- The root.

-- whether the part has this Content-ID
abbrev pub has_id : List ℕ → PartValue → Bool
has_id id part = elim part.id [
  | None ↦ false
  | Some own ↦ bytes_eq own id
]

-- the only part that passes the test, and the others before and after it
unfoldable pub only_one : (PartValue → Bool) → List PartValue → Option (PartValue × List PartValue)
only_one is [] = None
only_one is (part ∷ parts) =
    if is part then (if list_any is parts then None else Some (part, parts))
    else option_map (λ found. (found.0, part ∷ found.1)) (only_one is parts)

-- the root and the other parts: the root is the part that `start` names, or the first one
unfoldable pub root_of : Option (List ℕ) → List PartValue → Option (PartValue × List PartValue)
root_of None [] = None
root_of None (part ∷ parts) = Some (part, parts)
root_of (Some start) parts = only_one (has_id (without_brackets start)) parts

-- the root holds an envelope
abbrev pub is_root : PartValue → Bool
is_root part = elim (media_type_of part.media) [
  | None ↦ false
  | Some m ↦ is_envelope m
]

-- the index of the first part whose content is encoded
unfoldable pub encoded_at : ℕ → List PartValue → Option ℕ
encoded_at index [] = None
encoded_at index (part ∷ parts) = if part.identity then encoded_at (index + 1) parts else Some index

-- The package.

abbrev pub with_root : List PartValue → Option (PartValue × List PartValue) → Result PackageValue MimeRefusal
with_root parts None = Err NoRoot
with_root parts (Some found) =
    if is_root found.0 then (elim (encoded_at 0 parts) [
      | None ↦ Ok (record { root = found.0.content; parts = found.1 })
      | Some index ↦ Err (Encoding index)
    ])
    else Err NoRoot

abbrev pub packaged : Option (List ℕ) → Result (List PartValue) MimeRefusal → Result PackageValue MimeRefusal
packaged start (Err refusal) = Err refusal
packaged start (Ok parts) = with_root parts (root_of start parts)

unfoldable pub related : List Parameter → List ℕ → Result PackageValue MimeRefusal
related parameters body = elim (boundary_of parameters) [
  | None ↦ Err NoBoundary
  | Some boundary ↦ packaged (parameter (codes "start") parameters) (parts_of boundary body)
]

-- a bare envelope, or a package
abbrev pub typed : List ℕ → MediaType → Result PackageValue MimeRefusal
typed body m =
    if not (names_differ m.parameters) then Err BadType
    else if is_envelope m then Ok (record { root = body; parts = [] })
    else if is_type (codes "multipart") (codes "related") m then related m.parameters body
    else Err BadType

-- the package of a media text and a body, or the first refusal
unfoldable pub package_of : List ℕ → List ℕ → Result PackageValue MimeRefusal
package_of media body = elim (media_type_of media) [
  | None ↦ Err BadType
  | Some m ↦ typed body m
]
