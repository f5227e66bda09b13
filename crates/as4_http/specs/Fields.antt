-- The fields of a head, as pairs of a name and a value without the white space around it.
use Rattle.std.specs.Prelude.{ℕ, Bool, List, [], ◌∷◌, if◌then◌else◌, map}
use Rattle.std.specs.Str.{bytes_eq}
use Rattle.std.specs.Char.{to_ascii_lowercase}

-- two names are the same without case (RFC 9110, section 5.1)
unfoldable pub is_name : List ℕ → List ℕ → Bool
is_name bytes name = bytes_eq (map to_ascii_lowercase bytes) (map to_ascii_lowercase name)

-- the values of the fields of this name, in their order
abbrev pub values_in : List ℕ → List (List ℕ × List ℕ) → List (List ℕ)
values_in name [] = []
values_in name (field ∷ fields) = if is_name field.0 name then field.1 ∷ values_in name fields else values_in name fields
