-- Stamps: a date and a time of day as a text (XML Schema Part 2, section 3.2.7; here with a year of four digits, at
-- most nine decimal places of a second, and no hour 24).
use Rattle.std.specs.Prelude.{◌≡◌, ℕ, zero, suc, ◌+◌, ◌-◌, ◌*◌, ◌<◌, ◌≤◌, ◌⊎◌, List, [], ◌∷◌, ◌++◌, Bool, ◌&&◌, ◌||◌, ◌==◌, nat_lt, nat_le, if◌then◌else◌, Option, Some, None, IsTrue, length, slice_index, replicate, Contains, pos, codes}
use Rattle.jiff_core.specs.Calendar.{days_in_month}

-- whether a byte fits a byte of a form; `0` matches any digit
unfoldable pub fits_byte : ℕ → ℕ → Bool
fits_byte wanted byte = if wanted == 48 then nat_le 48 byte && nat_le byte 57 else byte == wanted

-- a point and `places` digits, or nothing
abbrev pub fraction_form : ℕ → List ℕ
fraction_form zero = []
fraction_form (suc places) = codes "." ++ replicate (suc places) 48

-- nothing, UTC, or an offset from it
abbrev pub zone_forms : List (List ℕ)
zone_forms = [] ∷ codes "Z" ∷ codes "+00:00" ∷ codes "-00:00" ∷ []

-- the forms of a stamp: to the second, with zero to nine decimal places, and a zone
abbrev pub IsForm : List ℕ → Type 0
IsForm form =
    (places : ℕ) × (zone : List ℕ) × (places ≤ 9) × Contains zone_forms zone
    × (form ≡ codes "0000-00-00T00:00:00" ++ fraction_form places ++ zone)

-- the first `n` bytes fit the first `n` of a form
pub record Fits (form text : List ℕ) (n : ℕ) : Type 0 where
  pub in_form : n ≤ length form
  pub in_text : n ≤ length text
  pub each : (k : ℕ) → k < n → IsTrue (fits_byte (slice_index form k) (slice_index text k))

-- the first `n` bytes fit the first `n` of some stamp's form
abbrev pub Begins : List ℕ → ℕ → Type 0
Begins text n = (form : List ℕ) × IsForm form × Fits form text n

-- the bytes fit some stamp's form, from the beginning to the end of both
abbrev pub HasForm : List ℕ → Type 0
HasForm text = (form : List ℕ) × IsForm form × (length form ≡ length text) × Fits form text (length text)

-- the number of the two digits at this place
abbrev pub two : List ℕ → ℕ → ℕ
two text at = (slice_index text at - 48) * 10 + (slice_index text (at + 1) - 48)

abbrev pub year_of : List ℕ → ℕ
year_of text = two text 0 * 100 + two text 2

-- whether the zone of a text of the form has a sign: it is the sixth byte from the end
abbrev pub has_offset : List ℕ → Bool
has_offset text = (slice_index text (length text - 6) == 43) || (slice_index text (length text - 6) == 45)

-- whether a number is outside `low` to `high`
unfoldable pub outside : ℕ → ℕ → ℕ → Bool
outside low high n = nat_lt n low || nat_lt high n

-- the place of the first field of an offset that is out of range: an offset is at most 14:00
abbrev pub wrong_offset : List ℕ → ℕ → Option ℕ
wrong_offset text at =
    if outside 0 14 (two text at) then Some at
    else if outside 0 (if two text at == 14 then 0 else 59) (two text (at + 3)) then Some (at + 3)
    else None

-- the place of the first field that is out of range
unfoldable pub wrong_field : List ℕ → Option ℕ
wrong_field text =
    if outside 1 9999 (year_of text) then Some 0
    else if outside 1 12 (two text 5) then Some 5
    else if outside 1 (days_in_month (pos (year_of text)) (two text 5)) (two text 8) then Some 8
    else if outside 0 23 (two text 11) then Some 11
    else if outside 0 59 (two text 14) then Some 14
    else if outside 0 59 (two text 17) then Some 17
    else if has_offset text then wrong_offset text (length text - 5)
    else None

-- the text of a stamp
abbrev pub IsStamp : List ℕ → Type 0
IsStamp text = HasForm text × (wrong_field text ≡ None)

-- why the text is no stamp: at this place is the first byte that fits no form, or the end of a text that is too short;
-- else the first field that is out of range
abbrev pub StampGoesWrong : List ℕ → ℕ → Type 0
StampGoesWrong text at =
    (Begins text at × (Begins text (at + 1) → ⊥) × (HasForm text → ⊥))
    ⊎ (HasForm text × (wrong_field text ≡ Some at))
