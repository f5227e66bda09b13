-- How long a body is (RFC 9112, section 6).
use Rattle.std.specs.Prelude.{◌≡◌, ℕ, ◌≤◌, IsTrue, List, length, All, Option, Some, None, codes}
use Rattle.std.specs.Option.{option_to_list}
use Rattle.std.specs.Char.{is_ascii_digit}
use Rattle.std.specs.Str.Parse.{digits_value}
use Rattle.as4_http.specs.Fields.{is_name, values_in}
use Rattle.as4_http.specs.declared.framing.Framing.{Framing}
use Rattle.as4_http.specs.declared.framing.Framing.TheVariants.{Counted, Chunked}

-- 1 to 19 decimal digits
pub record IsLength (bytes : List ℕ) : Type 0 where
  pub some : 1 ≤ length bytes
  pub few : length bytes ≤ 19
  pub digits : All (λ b. IsTrue (is_ascii_digit b)) bytes

-- what a length and a transfer coding say, where only one of them is there; where neither is, it is `neither`
abbrev pub Frames : Framing → Option (List ℕ) → Option (List ℕ) → Framing → Type 0
Frames neither None None framing = framing ≡ neither
Frames neither (Some length) None framing = IsLength length × (framing ≡ Counted (digits_value 10 length))
Frames neither None (Some coding) framing = IsTrue (is_name coding (codes "chunked")) × (framing ≡ Chunked)
Frames neither (Some length) (Some coding) framing = ⊥

-- what the fields say; each occurs once at most
pub record FramesAs (neither : Framing) (fields : List (List ℕ × List ℕ)) (framing : Framing) : Type 0 where
  pub length : Option (List ℕ)
  pub coding : Option (List ℕ)
  pub lengths : values_in (codes "content-length") fields ≡ option_to_list length
  pub codings : values_in (codes "transfer-encoding") fields ≡ option_to_list coding
  pub says : Frames neither length coding framing
