-- How a part is written: its fields, and its content after an empty line (RFC 2046, section 5.1; RFC 2822, section
-- 2.2).
use Rattle.std.specs.Prelude.{◌≡◌, ℕ, ◌<◌, ◌≤◌, List, [], ◌∷◌, ◌++◌, Option, Some, None, IsTrue, All, length, map}
use Rattle.std.specs.List.{list_all, flat_map}
use Rattle.mime_fields.specs.Fields.{Field, crlf, is_name_byte, is_line_byte, begins_with_space, trimmed, max_fields}

-- a field: its name, the line after the colon, and the lines that continue it
pub record WrittenField : Type 0 where
  pub name : List ℕ
  pub line : List ℕ
  pub folded : List (List ℕ)

-- the fields, and the content, if an empty line follows the fields
pub record WrittenPart : Type 0 where
  pub fields : List WrittenField
  pub content : Option (List ℕ)

-- The text of each.
abbrev pub field_text : WrittenField → List ℕ
field_text f = f.name ++ (58 ∷ (f.line ++ (flat_map (λ line. crlf ++ line) f.folded ++ crlf)))

abbrev pub content_text : Option (List ℕ) → List ℕ
content_text None = []
content_text (Some content) = crlf ++ content

abbrev pub part_text : WrittenPart → List ℕ
part_text w = flat_map field_text w.fields ++ content_text w.content

-- The meaning of each: the unfolded lines of a field, without blanks at both ends, and empty content if there is none.
abbrev pub field_meant : WrittenField → Field
field_meant f = record { name = f.name; value = trimmed (f.line ++ flat_map (λ line. line) f.folded) }

abbrev pub content_meant : Option (List ℕ) → List ℕ
content_meant None = []
content_meant (Some content) = content

-- The valid ones of each.
abbrev pub IsLine : List ℕ → Type 0
IsLine line = IsTrue (list_all is_line_byte line)

pub record IsField (f : WrittenField) : Type 0 where
  pub some : 0 < length f.name
  pub name : IsTrue (list_all is_name_byte f.name)
  pub line : IsLine f.line
  pub folded : All (λ line. IsLine line × IsTrue (begins_with_space line)) f.folded

pub record IsPart (w : WrittenPart) : Type 0 where
  pub fields : All IsField w.fields
  pub few : length w.fields ≤ max_fields

-- the bytes are these fields and this content
pub record HasFields (bytes : List ℕ) (fields : List Field) (content : List ℕ) : Type 0 where
  pub written : WrittenPart
  pub is : IsPart written
  pub bytes_are : bytes ≡ part_text written
  pub means : map field_meant written.fields ≡ fields
  pub content_is : content_meant written.content ≡ content
