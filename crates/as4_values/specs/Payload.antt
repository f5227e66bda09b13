-- The name and the type of a part of a package.
use Rattle.std.specs.Prelude.{ℕ, ◌-◌, List, Bool, not, ◌&&◌, ◌||◌, ◌==◌, nat_lt, nat_le, length, slice_index}
use Rattle.std.specs.List.{list_all}
use Rattle.byte_forms.specs.Classes.{is_space}
use Rattle.as4_values.specs.Word.{IsWord}
use Rattle.as4_values.specs.declared.word.Word.TheVariants.{Identifier}

-- a Content-ID, without its angle brackets, is spelled as an identifier (RFC 2392)
abbrev pub IsContentId : List ℕ → Type 0
IsContentId bytes = IsWord Identifier bytes

-- the media text of a part (RFC 2045, section 5.1): empty, or one line of at most 1,024 bytes without a space or tab at
-- either end
unfoldable pub is_media_text : List ℕ → Bool
is_media_text text =
    nat_le (length text) 1024
    && (list_all (λ b. not ((b == 10) || (b == 13))) text
    && not (nat_lt 0 (length text) && (is_space (slice_index text 0) || is_space (slice_index text (length text - 1)))))
