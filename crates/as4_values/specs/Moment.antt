-- Moments as texts, by the calendar: the stamps that this handler writes (XML Schema Part 2, section 3.2.7).
use Rattle.std.specs.Prelude.{◌≡◌, ℕ, zero, suc, ◌+◌, ◌*◌, ◌/◌, ◌%◌, ◌<◌, ◌≤◌, List, [], ◌∷◌, ◌++◌, pos, codes}
use Rattle.jiff_core.specs.Calendar.{IsCivilDate, days_from_civil}

-- a date of the calendar and a time of its day, to the millisecond
pub record Civil : Type 0 where
  pub year : ℕ
  pub month : ℕ
  pub day : ℕ
  pub hour : ℕ
  pub minute : ℕ
  pub second : ℕ
  pub milli : ℕ

-- the calendar has this date, from 1970 to 9999, and the time is one of a day
pub record IsCivil (c : Civil) : Type 0 where
  pub since : 1970 ≤ c.year
  pub date : IsCivilDate (pos c.year) c.month c.day
  pub hour : c.hour < 24
  pub minute : c.minute < 60
  pub second : c.second < 60
  pub milli : c.milli < 1000

-- the last `places` decimal digits of a number, with leading zeros
unfoldable pub digits : ℕ → ℕ → List ℕ
digits zero n = []
digits (suc places) n = digits places (n / 10) ++ (48 + n % 10) ∷ []

-- YYYY-MM-DD
abbrev pub date_text : ℕ → ℕ → ℕ → List ℕ
date_text year month day = digits 4 year ++ codes "-" ++ digits 2 month ++ codes "-" ++ digits 2 day

-- hh:mm:ss.mmm
abbrev pub time_text : ℕ → ℕ → ℕ → ℕ → List ℕ
time_text hour minute second milli =
    digits 2 hour ++ codes ":" ++ digits 2 minute ++ codes ":" ++ digits 2 second ++ codes "." ++ digits 3 milli

-- YYYY-MM-DDThh:mm:ss.mmmZ, in UTC
abbrev pub stamp_of : Civil → List ℕ
stamp_of c =
    date_text c.year c.month c.day ++ codes "T" ++ time_text c.hour c.minute c.second c.milli ++ codes "Z"

-- the text of some moment from 1970 to 9999
abbrev pub IsMomentStamp : List ℕ → Type 0
IsMomentStamp text = (c : Civil) × IsCivil c × (text ≡ stamp_of c)

-- the milliseconds since midnight
abbrev pub time_of : Civil → ℕ
time_of c = c.hour * 3600000 + c.minute * 60000 + c.second * 1000 + c.milli

-- the text of the moment `ms`, in milliseconds since 1970-01-01T00:00:00Z
abbrev pub IsStampOf : ℕ → List ℕ → Type 0
IsStampOf ms text =
    (c : Civil) × IsCivil c × (days_from_civil (pos c.year) c.month c.day ≡ pos (ms / 86400000))
    × (time_of c ≡ ms % 86400000) × (text ≡ stamp_of c)
