-- Classes of bytes, and the content of an XML declaration.
use Rattle.std.specs.Prelude.{ℕ, List, [], ◌∷◌, Bool, false, not, ◌&&◌, ◌||◌, ◌==◌, nat_le, codes, map}
use Rattle.std.specs.Char.{is_ascii_alphanumeric, to_ascii_lowercase}
use Rattle.std.specs.Str.{bytes_eq}
use Rattle.xml_items.specs.Items.{Written}

-- a byte of a name: a letter, a digit, `-`, `.`, `:`, `_`, or one of a character past ASCII (XML 1.0, section 2.3;
-- which of them may begin a name isn't checked here)
abbrev pub is_name_byte : ℕ → Bool
is_name_byte b = is_ascii_alphanumeric b || (b == 45) || (b == 46) || (b == 58) || (b == 95) || nat_le 128 b

-- a quote, `"` or `'`
abbrev pub is_quote : ℕ → Bool
is_quote b = (b == 34) || (b == 39)

-- a byte of a value between two such quotes: neither the quote nor `<` (XML 1.0, section 2.3)
abbrev pub is_value_byte : ℕ → ℕ → Bool
is_value_byte quote b = not ((b == quote) || (b == 60))

-- a byte of text between markup: not `<` (XML 1.0, section 2.4)
abbrev pub is_text_byte : ℕ → Bool
is_text_byte b = not (b == 60)

-- an attribute with this name and this value
abbrev pub says : List ℕ → List ℕ → Written → Bool
says name value a = bytes_eq a.name name && bytes_eq a.value value

-- `version="1.0"`
unfoldable pub is_version : Written → Bool
is_version a = says (codes "version") (codes "1.0") a

-- `encoding="UTF-8"`, in any case
unfoldable pub is_encoding : Written → Bool
is_encoding a = bytes_eq a.name (codes "encoding") && bytes_eq (map to_ascii_lowercase a.value) (codes "utf-8")

-- `standalone="yes"` or `standalone="no"`
unfoldable pub is_standalone : Written → Bool
is_standalone a = says (codes "standalone") (codes "yes") a || says (codes "standalone") (codes "no") a

-- an XML declaration: its version, then an optional encoding, then an optional standalone part (XML 1.0, sections 2.8,
-- 2.9 and 4.3.3)
unfoldable pub declares : List Written → Bool
declares [] = false
declares (v ∷ []) = is_version v
declares (v ∷ e ∷ []) = is_version v && (is_encoding e || is_standalone e)
declares (v ∷ e ∷ s ∷ []) = is_version v && is_encoding e && is_standalone s
declares (v ∷ e ∷ s ∷ more ∷ others) = false
