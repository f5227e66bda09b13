-- Identifiers and codes: short words of graphic characters.
use Rattle.std.specs.Prelude.{◌≡◌, ℕ, ◌<◌, ◌≤◌, ◌⊎◌, List, [], Bool, false, not, ◌&&◌, ◌==◌, nat_le, IsTrue, length, slice_index}
use Rattle.std.specs.List.{AllWithin}
use Rattle.as4_values.specs.declared.word.Word.{Word}
use Rattle.as4_values.specs.declared.word.Word.TheVariants.{Identifier, ErrorCode}

-- a graphic character of ASCII, from `!` to `~`
abbrev pub is_graphic : ℕ → Bool
is_graphic b = nat_le 33 b && nat_le b 126

-- the bytes of a word: an identifier (RFC 2822, section 3.6.4) is written in angle brackets and contains none
abbrev pub allows : Word → ℕ → Bool
allows Identifier b = is_graphic b && not (b == 60) && not (b == 62)
allows ErrorCode b = is_graphic b

-- the most bytes that a word may have
abbrev pub limit_of : Word → ℕ
limit_of Identifier = 255
limit_of ErrorCode = 64

-- each byte from place 0 up to `end` is allowed
abbrev pub IsAllowedUpTo : Word → List ℕ → ℕ → Type 0
IsAllowedUpTo word bytes end = AllWithin (λ b. IsTrue (allows word b)) bytes 0 end

-- the bytes are such a word
pub record IsWord (word : Word) (bytes : List ℕ) : Type 0 where
  pub some : 0 < length bytes
  pub limited : length bytes ≤ limit_of word
  pub each : IsAllowedUpTo word bytes (length bytes)

-- the bytes stop being such a word at this place: there are no bytes, or it is the first byte that isn't allowed, or
-- the first past the limit
abbrev pub GoesWrong : Word → List ℕ → ℕ → Type 0
GoesWrong word bytes at =
    IsAllowedUpTo word bytes at
    × (((bytes ≡ []) × (at ≡ 0))
    ⊎ ((at < length bytes) × (at < limit_of word) × (allows word (slice_index bytes at) ≡ false))
    ⊎ ((at < length bytes) × (at ≡ limit_of word)))
