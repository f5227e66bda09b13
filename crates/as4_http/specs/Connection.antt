-- Whether a connection is kept after a message (RFC 9112, section 9.3).
use Rattle.std.specs.Prelude.{ℕ, Bool, ◌&&◌, ◌||◌, ◌==◌, List, codes}
use Rattle.std.specs.List.{list_any, slice_split}
use Rattle.as4_http.specs.Fields.{is_name}

-- a byte between the words of a field: a comma, a space or a tab
abbrev pub is_gap : ℕ → Bool
is_gap byte = byte == 44 || (byte == 32 || byte == 9)

-- one of its words is `close`, without case
unfoldable pub names_close : List ℕ → Bool
names_close value = list_any (λ word. is_name word (codes "close")) (slice_split is_gap value)

-- a field that is named `Connection` and has the word `close`
abbrev pub is_closing : List ℕ × List ℕ → Bool
is_closing field = is_name field.0 (codes "connection") && names_close field.1

-- there is such a field
unfoldable pub closes : List (List ℕ × List ℕ) → Bool
closes fields = list_any is_closing fields
