-- Texts of a header; the limit is this handler's own.
use Rattle.std.specs.Prelude.{◌≡◌, ◌≢◌, ℕ, ◌+◌, ◌-◌, ◌<◌, ◌≤◌, ◌⊎◌, List, ◌++◌, Bool, false, ◌&&◌, ◌||◌, ◌==◌, nat_le, IsTrue, length, take, drop, slice_index, encode_utf8, encode_utf8_all}
use Rattle.std.specs.List.{AllWithin, list_all}
use Rattle.std.specs.Str.{bytes_eq, chars}
use Rattle.byte_forms.specs.Classes.{is_blank}

-- the most bytes that a text may have
abbrev pub text_limit : ℕ
text_limit = 65536

-- a character that a document may hold (XML 1.0, section 2.2)
abbrev pub is_xml_char : ℕ → Bool
is_xml_char c =
    (c == 9) || (c == 10) || (c == 13) || (nat_le 0x20 c && nat_le c 0xD7FF)
    || (nat_le 0xE000 c && nat_le c 0xFFFD) || (nat_le 0x10000 c && nat_le c 0x10FFFF)

-- characters of XML, in UTF-8
abbrev pub IsXml : List ℕ → Type 0
IsXml bytes =
    (chars : List ℕ) × AllWithin (λ c. IsTrue (is_xml_char c)) chars 0 (length chars)
    × (encode_utf8_all chars ≡ bytes)

-- the same, as a Boolean test
unfoldable pub is_xml : List ℕ → Bool
is_xml bytes = list_all is_xml_char (chars bytes) && bytes_eq (encode_utf8_all (chars bytes)) bytes

-- nothing but blanks
abbrev pub IsBlank : List ℕ → Type 0
IsBlank bytes = AllWithin (λ b. IsTrue (is_blank b)) bytes 0 (length bytes)

-- nonempty, and neither the first nor the last byte is a blank
pub record IsTrimmed (bytes : List ℕ) : Type 0 where
  pub some : 0 < length bytes
  pub first : is_blank (slice_index bytes 0) ≡ false
  pub last : is_blank (slice_index bytes (length bytes - 1)) ≡ false

-- the value of a text: characters of XML, no more than the limit, without a blank at either end
pub record IsText (bytes : List ℕ) : Type 0 where
  pub trimmed : IsTrimmed bytes
  pub limited : length bytes ≤ text_limit
  pub spelled : IsXml bytes

-- `core` is the bytes without the blanks at both ends, and begins at `at`
abbrev pub HasCore : List ℕ → List ℕ → ℕ → Type 0
HasCore bytes core at =
    (front back : List ℕ) × IsBlank front × IsBlank back × IsTrimmed core
    × (bytes ≡ front ++ core ++ back) × (at ≡ length front)

-- the bytes are read as this text
abbrev pub Spells : List ℕ → List ℕ → Type 0
Spells bytes text = IsText text × ((at : ℕ) × HasCore bytes text at)

-- no character of XML begins at this place, and all bytes before it are such characters
pub record IsNoXmlFrom (bytes : List ℕ) (at : ℕ) : Type 0 where
  pub short : at < length bytes
  pub front : IsXml (take at bytes)
  pub none : (c : ℕ) (rest : List ℕ) → IsTrue (is_xml_char c) → drop at bytes ≢ encode_utf8 c ++ rest

-- why the bytes are no text: at this place is no character of XML; else it is the first byte past the limit; else the
-- bytes are all blank, and it is their end
abbrev pub TextGoesWrong : List ℕ → ℕ → Type 0
TextGoesWrong bytes at =
    IsNoXmlFrom bytes at
    ⊎ (IsXml bytes × ((core : List ℕ) × (start : ℕ) × HasCore bytes core start
    × (text_limit < length core) × (at ≡ start + text_limit)))
    ⊎ (IsBlank bytes × (at ≡ length bytes))
