-- Texts that need no escape: in a document (XML 1.0, section 2.4) and after `cid:` (RFC 3986, section 2.1).
use Rattle.std.specs.Prelude.{ℕ, ◌+◌, ◌<◌, ◌≤◌, List, Bool, not, ◌&&◌, ◌||◌, ◌==◌, nat_le, IsTrue, length, slice_index}
use Rattle.as4_values.specs.Texts.{text_limit}

-- printable ASCII without what XML escapes (`"`, `&`, `<`, `>`) and without `%`, which begins an escape of a URL
abbrev pub is_plain : ℕ → Bool
is_plain b =
    nat_le 32 b && nat_le b 126
    && not ((b == 34) || (b == 37) || (b == 38) || (b == 60) || (b == 62))

-- the byte at this place may be in a plain text: a space is not allowed at either end
abbrev pub allows_at : List ℕ → ℕ → Bool
allows_at bytes at =
    is_plain (slice_index bytes at)
    && not ((slice_index bytes at == 32) && ((at == 0) || (at + 1 == length bytes)))

-- at least one such byte, and no space at either end
pub record IsPlainText (bytes : List ℕ) : Type 0 where
  pub some : 0 < length bytes
  pub limited : length bytes ≤ text_limit
  pub each : (k : ℕ) → k < length bytes → IsTrue (allows_at bytes k)
