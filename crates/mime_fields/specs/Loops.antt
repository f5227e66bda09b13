-- The results of the code's loops.
use Rattle.std.specs.Prelude.{ℕ, ◌+◌, List, [], ◌∷◌, Bool, false, not, Option, Some, None, ◌==◌, ◌&&◌, nat_lt, if◌then◌else◌, length, slice_index, reverse, option_map}
use Rattle.byte_forms.specs.Classes.{is_blank}
use Rattle.byte_forms.specs.Cuts.{skip, strip_prefix}
use Rattle.mime_fields.specs.Fields.{crlf}

-- the number of bytes before the closing quote of a quoted string
unfoldable pub quoted_len : List ℕ → Option ℕ
quoted_len [] = None
quoted_len (b ∷ []) = if b == 34 then Some 0 else None
quoted_len (b ∷ c ∷ bytes) =
    if b == 34 then Some 0
    else if b == 92 then option_map (λ n. n + 2) (quoted_len bytes)
    else option_map (λ n. n + 1) (quoted_len (c ∷ bytes))

-- the index of the byte that is meant at this index: after a backslash, if there is one
abbrev pub meant_at : List ℕ → ℕ → ℕ
meant_at bytes at = if slice_index bytes at == 92 && nat_lt (at + 1) (length bytes) then at + 1 else at

-- whether a field must follow: neither the end nor an empty line does
abbrev pub goes_on : List ℕ → Bool
goes_on [] = false
goes_on (b ∷ bytes) = not (b == 13)

-- the content after the fields
unfoldable pub content_at : List ℕ → Option (List ℕ)
content_at [] = Some []
content_at (b ∷ bytes) = strip_prefix crlf (b ∷ bytes)

-- the bytes without trailing blanks and line ends
abbrev pub end_trimmed : List ℕ → List ℕ
end_trimmed bytes = reverse (skip is_blank (reverse bytes))
