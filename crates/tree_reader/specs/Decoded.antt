-- The meaning of texts and values (XML 1.0, sections 2.2, 2.11, 3.3.3, 4.1 and 4.6).
use Rattle.std.specs.Prelude.{ℕ, zero, suc, ◌+◌, List, [], ◌∷◌, Bool, true, false, not, ◌&&◌, ◌||◌, ◌==◌, nat_le, if◌then◌else◌, Option, Some, None, length, take, drop, position, slice_index, bytes_eq, codes}
use Rattle.std.specs.List.{list_all}
use Rattle.std.specs.Char.{is_digit, encode_utf8}
use Rattle.std.specs.Str.Parse.{digits_value}
use Rattle.as4_values.specs.Texts.{is_xml, is_xml_char}
use Rattle.byte_forms.specs.Cuts.{◌>>=◌}
use Rattle.tree_reader.specs.Steps.{given, with_front}

-- the five predefined entities (section 4.6)
unfoldable pub entity : List ℕ → Option ℕ
entity name =
    if bytes_eq name (codes "amp") then Some 38
    else if bytes_eq name (codes "lt") then Some 60
    else if bytes_eq name (codes "gt") then Some 62
    else if bytes_eq name (codes "quot") then Some 34
    else if bytes_eq name (codes "apos") then Some 39
    else None

-- the character of XML that these digits name (section 4.1)
unfoldable pub numbered : ℕ → List ℕ → Option ℕ
numbered radix digits =
    given (nat_le 1 (length digits) && list_all (λ d. is_digit d radix) digits && is_xml_char (digits_value radix digits))
    (Some (digits_value radix digits))

-- the character for `&name;`: `#` begins a decimal number, `#x` a hexadecimal one
unfoldable pub referred : List ℕ → Option ℕ
referred name =
    if bytes_eq (take 2 name) (codes "#x") then numbered 16 (drop 2 name)
    else if bytes_eq (take 1 name) (codes "#") then numbered 10 (drop 1 name)
    else entity name

-- the meaning of a piece, and the number of bytes after its first
pub record Piece : Type 0 where
  pub meant : List ℕ
  pub more : ℕ

abbrev pub is_semicolon : ℕ → Bool
is_semicolon b = b == 59

-- a reference, after its `&`
unfoldable pub reference_at : List ℕ → Option Piece
reference_at bytes =
    position is_semicolon bytes >>= λ at.
    referred (take at bytes) >>= λ c.
    Some (record { meant = encode_utf8 c; more = at + 1 })

-- the end of a line means a LF, in a value a space (sections 2.11 and 3.3.3)
abbrev pub line_end : Bool → ℕ
line_end in_value = if in_value then 32 else 10

-- a byte that means itself; in a value a tab or a LF doesn't, it is read as a space
abbrev pub is_plain : Bool → ℕ → Bool
is_plain in_value b = not ((b == 38) || (b == 13)) && not (in_value && ((b == 9) || (b == 10)))

-- the piece that begins with this byte
unfoldable pub piece_at : Bool → ℕ → List ℕ → Option Piece
piece_at in_value b bytes =
    if is_plain in_value b then Some (record { meant = b ∷ []; more = 0 })
    else if b == 38 then reference_at bytes
    else Some (record { meant = line_end in_value ∷ []; more = if (b == 13) && (slice_index bytes 0 == 10) then 1 else 0 })

-- the meaning of the pieces together, after skipping n bytes that belong to an earlier piece
abbrev pub meant_behind : Bool → ℕ → List ℕ → Option (List ℕ)
meant_behind in_value more [] = Some []
meant_behind in_value zero (b ∷ bytes) = piece_at in_value b bytes >>= λ p. with_front p.meant (meant_behind in_value p.more bytes)
meant_behind in_value (suc more) (b ∷ bytes) = meant_behind in_value more bytes

unfoldable pub pieces_meant : Bool → List ℕ → Option (List ℕ)
pieces_meant in_value bytes = meant_behind in_value 0 bytes

-- the meaning of the bytes between tags or quotes: they must be characters of XML, and each `&` must begin a reference
unfoldable pub characters_meant : Bool → List ℕ → Option (List ℕ)
characters_meant in_value bytes = given (is_xml bytes) (pieces_meant in_value bytes)

abbrev pub text_meant : List ℕ → Option (List ℕ)
text_meant bytes = characters_meant false bytes

abbrev pub value_meant : List ℕ → Option (List ℕ)
value_meant bytes = characters_meant true bytes

-- an ASCII character of XML that means itself in texts and values; in a text also a tab or a LF
abbrev pub is_simple : Bool → ℕ → Bool
is_simple in_value b = (not (b == 38) && nat_le 32 b && nat_le b 126) || (not in_value && ((b == 10) || (b == 9)))
