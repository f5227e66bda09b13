-- The parts of a stamp, each by its forms.
use Rattle.std.specs.Prelude.{◌≡◌, ℕ, ◌+◌, ◌≤◌, List, ◌++◌, Contains, length, codes}
use Rattle.as4_values.specs.Stamp.{fraction_form, zone_forms, Fits}

-- an offset from UTC, without its sign
abbrev pub offset : List ℕ
offset = codes "00:00"

abbrev pub IsOffsetForm : List ℕ → Type 0
IsOffsetForm form = form ≡ offset

-- nothing, UTC or an offset
abbrev pub IsZoneForm : List ℕ → Type 0
IsZoneForm form = Contains zone_forms form

-- the text after the seconds
abbrev pub IsTailForm : List ℕ → Type 0
IsTailForm form =
    (places : ℕ) × (zone : List ℕ) × (places ≤ 9) × IsZoneForm zone × (form ≡ fraction_form places ++ zone)

-- the text has one of these forms
abbrev pub Has : (List ℕ → Type 0) → List ℕ → Type 0
Has IsOne text = (form : List ℕ) × IsOne form × (length form ≡ length text) × Fits form text (length text)

-- the first `at` bytes fit one of these forms and one byte more fits none, and the text doesn't end there as a whole
-- one
pub record Stops (IsOne : List ℕ → Type 0) (text : List ℕ) (at : ℕ) : Type 0 where
  pub begins : (form : List ℕ) × IsOne form × Fits form text at
  pub no_more : (form : List ℕ) → IsOne form → Fits form text (at + 1) → ⊥
  pub not_whole : Has IsOne text → ⊥
