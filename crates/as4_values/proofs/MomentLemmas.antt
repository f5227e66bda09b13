-- Digits, and the calendar since 1970.
use Rattle.std.proofs.Common.{◌≡◌, ℕ, suc, ◌+◌, ◌*◌, ◌/◌, ◌%◌, ◌<◌, ◌≤◌, List, [], ◌∷◌, ◌++◌, ℤ, pos, negsuc, ◌≤ℤ◌, arith, refl, sym, ◌∙◌, append_assoc}
use Rattle.std.proofs.lemmas.List.{append-nil}
use Rattle.std.specs.Int.RustNames.{unsigned_abs}
use Rattle.std.proofs.lemmas.Int.{by_lt_z}
use Rattle.jiff_core.specs.declared.civil.date.Date.{Date}
use Rattle.jiff_core.specs.Calendar.{IsCivilDate, days_from_civil}
use Rattle.jiff_core.specs.Date.{epoch_day}
use Rattle.jiff_core.proofs.SignedLemmas.{signed_arith}
use Rattle.jiff_core.proofs.CalendarLemmas.{day_count-epoch, day_count-lt_year, days_from_civil-day_count}
use Rattle.jiff_core.proofs.DateLemmas.{civil, epoch_day_injective}
use Rattle.as4_values.specs.Moment.{Civil, IsCivil, digits, stamp_of, time_of, IsStampOf}

-- one more digit at the end
pub push_digit : (out : List ℕ) (places fewer n : ℕ) → places ≡ suc fewer → (out ++ digits fewer (n / 10)) ++ (48 + n % 10) ∷ [] ≡ out ++ digits places n
unfolding digits
push_digit out places fewer n more = rw (more, append_assoc) refl

pub push_none : (out : List ℕ) (places n : ℕ) → places ≡ 0 → out ≡ out ++ digits places n
unfolding digits
push_none out places n none = rw (none, append-nil) refl

-- day 0 and the days after it are in 1970 or later
since_1970 : (y : ℤ) (m d day : ℕ) → IsCivilDate y m d → days_from_civil y m d ≡ pos day → pos 1970 ≤ℤ y
since_1970 y m d day there is =
    by_lt_z y (pos 1970)
    (λ early. absurd (omega (arith, signed_arith, is, days_from_civil-day_count y m d, day_count-epoch, day_count-lt_year y m d (pos 1970) 1 1 there (omega arith) early)))
    (λ late. omega (arith, signed_arith))

from_1970 : (y : ℤ) → pos 1970 ≤ℤ y → (1970 ≤ unsigned_abs y) × (y ≡ pos (unsigned_abs y))
from_1970 (pos y) late = (omega (arith, signed_arith), refl)
from_1970 (negsuc y) late = absurd (omega (arith, signed_arith))

pub year_since_1970 : (date : Date) (day : ℕ) → epoch_day date ≡ pos day → (1970 ≤ unsigned_abs date.year) × (date.year ≡ pos (unsigned_abs date.year))
year_since_1970 date day is =
    from_1970 date.year (since_1970 date.year date.month date.day day (civil date) is)

-- a date, and a number of milliseconds of its day
abbrev pub civil_at : Date → ℕ → Civil
civil_at date time = record {
  year = unsigned_abs date.year;
  month = date.month;
  day = date.day;
  hour = time / 3600000;
  minute = time % 3600000 / 60000;
  second = time % 60000 / 1000;
  milli = time % 1000;
}

-- the text of a moment
pub stamp_is_of : (ms : ℕ) (date : Date) (text : List ℕ) → epoch_day date ≡ pos (ms / 86400000) → text ≡ stamp_of (civil_at date (ms % 86400000)) → IsStampOf ms text
stamp_is_of ms date text is spelled =
    let year = year_since_1970 date (ms / 86400000) is in (
      civil_at date (ms % 86400000),
      record {
        since = year.0;
        date = rw (← year.1) (civil date);
        hour = omega arith;
        minute = omega arith;
        second = omega arith;
        milli = omega arith;
      },
      rw (← year.1) is,
      omega arith,
      spelled,
    )

-- the sum determines the hours, minutes, seconds and milliseconds of a day
same_time : (h m s u k n t v : ℕ) → m < 60 → s < 60 → u < 1000 → n < 60 → t < 60 → v < 1000
    → h * 3600000 + m * 60000 + s * 1000 + u ≡ k * 3600000 + n * 60000 + t * 1000 + v
    → (h ≡ k) × (m ≡ n) × (s ≡ t) × (u ≡ v)
same_time h m s u k n t v m_in s_in u_in n_in t_in v_in e = (omega arith, omega arith, omega arith, omega arith)

-- a date of the calendar as jiff_core has it
unfoldable pub date_from : (y : ℤ) (m d : ℕ) → IsCivilDate y m d → Date
date_from y m d is = record { year = y; month = m; day = d; year_in = is.0; month_in = is.1; day_in = is.2 }

-- a day number is that of one date
same_date : (y y₂ : ℤ) (m m₂ d d₂ : ℕ) → IsCivilDate y m d → IsCivilDate y₂ m₂ d₂ → days_from_civil y m d ≡ days_from_civil y₂ m₂ d₂
    → (y ≡ y₂) × (m ≡ m₂) × (d ≡ d₂)
unfolding date_from
same_date y y₂ m m₂ d d₂ is is₂ e = epoch_day_injective (date_from y m d is) (date_from y₂ m₂ d₂ is₂) e

same_year : (y y₂ : ℕ) → pos y ≡ pos y₂ → y ≡ y₂
same_year y y₂ e = cc

-- a moment has one date and time
same_civil : (ms : ℕ) (a b : Civil) → IsCivil a → IsCivil b
    → days_from_civil (pos a.year) a.month a.day ≡ pos (ms / 86400000) → days_from_civil (pos b.year) b.month b.day ≡ pos (ms / 86400000)
    → time_of a ≡ ms % 86400000 → time_of b ≡ ms % 86400000 → stamp_of a ≡ stamp_of b
same_civil ms a b is_a is_b date_a date_b time_a time_b =
    let date = same_date (pos a.year) (pos b.year) a.month b.month a.day b.day is_a.date is_b.date (date_a ∙ sym date_b) in
    let time = same_time a.hour a.minute a.second a.milli b.hour b.minute b.second b.milli is_a.minute is_a.second is_a.milli is_b.minute is_b.second is_b.milli (time_a ∙ sym time_b) in
    rw (same_year a.year b.year date.0, date.1, date.2, time.0, time.1, time.2, time.3)

pub one_stamp_of : (ms : ℕ) (a b : List ℕ) → IsStampOf ms a → IsStampOf ms b → a ≡ b
one_stamp_of ms a b is_a is_b =
    is_a.4 ∙ (same_civil ms is_a.0 is_b.0 is_a.1 is_b.1 is_a.2 is_b.2 is_a.3 is_b.3 ∙ sym is_b.4)
