-- Where UTF-8 has a character that a document may not hold, by its bytes (XML 1.0, section 2.2).
use Rattle.std.specs.Prelude.{ℕ, ◌+◌, List, Bool, not, ◌&&◌, ◌||◌, ◌==◌, nat_lt, nat_le, slice_index}
use Rattle.byte_forms.specs.Classes.{is_blank}

-- a control character other than a blank
abbrev pub is_control : ℕ → Bool
is_control b = nat_lt b 0x20 && not (is_blank b)

-- a control character other than a blank, U+FFFE or U+FFFF begins at this place
unfoldable pub forbidden_at : List ℕ → ℕ → Bool
forbidden_at bytes at =
    is_control (slice_index bytes at)
    || ((slice_index bytes at == 0xEF) && (slice_index bytes (at + 1) == 0xBF) && nat_le 0xBE (slice_index bytes (at + 2)))
