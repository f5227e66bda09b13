-- How the head of a part is read: fields (RFC 2822, section 2.2) followed by the content (RFC 2046, section 5.1).
use Rattle.std.specs.Prelude.{ℕ, zero, suc, ◌-◌, List, [], ◌∷◌, ◌++◌, Bool, true, false, not, ◌&&◌, ◌||◌, ◌==◌, nat_lt, nat_le, nat_eq, if◌then◌else◌, Option, Some, None, option_map, codes, length, reverse, take, drop}
use Rattle.std.specs.List.{filter, list_all, take_while, starts_with, ends_with}
use Rattle.std.specs.Str.{str_eq_ignore_ascii_case}
use Rattle.byte_forms.specs.Classes.{is_space}
use Rattle.as4_values.specs.Word.{allows}
use Rattle.as4_values.specs.declared.word.Word.TheVariants.{Identifier}
use Rattle.byte_forms.specs.Cuts.{◌>>=◌, skip, run_at, strip_prefix}

-- a field, with its value unfolded and trimmed
pub record Field : Type 0 where
  pub name : List ℕ
  pub value : List ℕ

-- the values of a part: its Content-ID, its media text, whether its content is sent unencoded, and the content
pub record PartValue : Type 0 where
  pub id : Option (List ℕ)
  pub media : List ℕ
  pub identity : Bool
  pub content : List ℕ

abbrev pub crlf : List ℕ
crlf = 13 ∷ 10 ∷ []

-- a graphic ASCII character other than the colon
abbrev pub is_name_byte : ℕ → Bool
is_name_byte b = nat_lt 32 b && nat_lt b 127 && not (b == 58)

abbrev pub is_line_byte : ℕ → Bool
is_line_byte b = not (b == 13) && not (b == 10)

abbrev pub begins_with_space : List ℕ → Bool
begins_with_space [] = false
begins_with_space (b ∷ bytes) = is_space b

-- at most n lines, each of which after the first begins with a space or tab (section 2.2.3), and the bytes after the
-- CRLF that ends them
unfoldable pub lines_within : ℕ → List ℕ → Option (List ℕ × List ℕ)
lines_within zero bytes = None
lines_within (suc n) bytes = do
  next ← strip_prefix crlf (skip is_line_byte bytes)
  if begins_with_space next
      then option_map (λ more. (take_while is_line_byte bytes ++ (crlf ++ more.0), more.1)) (lines_within n next)
      else Some (take_while is_line_byte bytes, next)

-- the unfolded lines, without blanks at both ends
unfoldable pub trimmed : List ℕ → List ℕ
trimmed bytes = reverse (skip is_space (reverse (skip is_space bytes)))

unfoldable pub unfolded : List ℕ → List ℕ
unfolded lines = trimmed (filter is_line_byte lines)

-- a field, and the bytes after it
unfoldable pub field_at : List ℕ → Option (Field × List ℕ)
field_at bytes = do
  name ← run_at is_name_byte bytes
  rest ← strip_prefix (codes ":") name.1
  lines ← lines_within (length rest) rest
  Some (record { name = name.0; value = unfolded lines.0 }, lines.1)

-- the maximum number of fields of a part: a limit of this reader
abbrev pub max_fields : ℕ
max_fields = 64

-- at most n fields, and the content, which is empty if nothing follows the fields
unfoldable pub fields_within : ℕ → List ℕ → Option (List Field × List ℕ)
fields_within zero [] = Some ([], [])
fields_within zero (b ∷ bytes) = option_map (λ content. ([], content)) (strip_prefix crlf (b ∷ bytes))
fields_within (suc n) [] = Some ([], [])
fields_within (suc n) (b ∷ bytes) =
    if b == 13 then option_map (λ content. ([], content)) (strip_prefix crlf (b ∷ bytes)) else (
    field_at (b ∷ bytes) >>= λ first. option_map (λ others. (first.0 ∷ others.0, others.1)) (fields_within n first.1)
    )

-- the value of the field of this name, if there is one; `None` if there are several
abbrev pub at_most_one : List Field → Option (Option (List ℕ))
at_most_one [] = Some None
at_most_one (field ∷ []) = Some (Some field.value)
at_most_one (field ∷ other ∷ others) = None

unfoldable pub value_of : List ℕ → List Field → Option (Option (List ℕ))
value_of name fields = at_most_one (filter (λ field. str_eq_ignore_ascii_case field.name name) fields)

-- the bytes between angle brackets, or the bytes themselves if they have none
abbrev pub without_brackets : List ℕ → List ℕ
without_brackets bytes =
    if starts_with nat_eq bytes (codes "<") && (ends_with nat_eq bytes (codes ">") && nat_lt 1 (length bytes))
    then take (length bytes - 2) (drop 1 bytes)
    else bytes

-- a Content-ID (RFC 2045, section 7; RFC 2392) is spelled as an identifier, in angle brackets or bare
unfoldable pub is_word : List ℕ → Bool
is_word bytes = nat_lt 0 (length bytes) && (nat_le (length bytes) 255 && list_all (allows Identifier) bytes)

unfoldable pub content_id : List ℕ → Option (List ℕ)
content_id value = if is_word (without_brackets value) then Some (without_brackets value) else None

abbrev pub id_of : Option (List ℕ) → Option (Option (List ℕ))
id_of None = Some None
id_of (Some value) = option_map Some (content_id value)

-- a media text of at most 1,024 bytes, empty if there is none: a limit of this reader
abbrev pub media_of : Option (List ℕ) → Option (List ℕ)
media_of None = Some []
media_of (Some value) = if nat_le (length value) 1024 then Some value else None

-- whether the content is sent unencoded (RFC 2045, section 6.2)
abbrev pub is_identity : Option (List ℕ) → Bool
is_identity None = true
is_identity (Some value) =
    str_eq_ignore_ascii_case value (codes "7bit") || str_eq_ignore_ascii_case value (codes "8bit")
    || str_eq_ignore_ascii_case value (codes "binary")

-- the part that the bytes spell
unfoldable pub part_of : List ℕ → Option PartValue
part_of bytes = do
  head ← fields_within max_fields bytes
  id ← value_of (codes "Content-ID") head.0
  media ← value_of (codes "Content-Type") head.0
  encoding ← value_of (codes "Content-Transfer-Encoding") head.0
  id ← id_of id
  media ← media_of media
  Some (record { id = id; media = media; identity = is_identity encoding; content = head.1 })
