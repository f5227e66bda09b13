-- The moment of a stamp.
use Rattle.std.proofs.Common.{◌≡◌, ℕ, ◌+◌, ◌*◌, ◌/◌, ◌%◌, ◌<◌, ◌≤◌, List, length, ℤ, pos, negsuc, ◌≤ℤ◌, arith, refl, ap, sym, subst, ◌-◌, ◌∙◌, inl, inr}
use Rattle.std.specs.Prelude.{Bool, true, false, ◌||◌, ◌==◌, if◌then◌else◌, nat_lt, slice_index}
use Rattle.std.specs.Int.RustNames.{unsigned_abs}
use Rattle.std.proofs.lemmas.Bool.{cases_Bool, ltb-true, ltb-false}
use Rattle.jiff_core.specs.Calendar.{IsCivilDate, day_count, days_in_month, is_leap_year, days_from_civil}
use Rattle.jiff_core.proofs.SignedLemmas.{signed_arith}
use Rattle.jiff_core.proofs.CalendarLemmas.{day_count-day_of_year, day_count-epoch, day_count-lt_year, days_from_civil-day_count}
use Rattle.as4_values.proofs.MomentTextLemmas.{civil_of, of_moment}
use Rattle.as4_values.specs.Moment.{Civil, IsCivil, IsMomentStamp, IsStampOf, digits, stamp_of, time_of}
use Rattle.as4_values.specs.Stamp.{two, year_of}

pub long : (text : List ℕ) → IsMomentStamp text → length text ≡ 24
long text is = (of_moment text is).len

-- the numbers of digits
two_back : (n : ℕ) → n < 100 → ((48 + n / 10 % 10) - 48) * 10 + ((48 + n % 10) - 48) ≡ n
two_back n small = omega arith

three_back : (n : ℕ) → n < 1000 → (((48 + n / 10 / 10 % 10) - 48) * 10 + ((48 + n / 10 % 10) - 48)) * 10 + ((48 + n % 10) - 48) ≡ n
three_back n small = omega arith

four_back : (n : ℕ) → n ≤ 9999 → (((48 + n / 10 / 10 / 10 % 10) - 48) * 10 + ((48 + n / 10 / 10 % 10) - 48)) * 100 + (((48 + n / 10 % 10) - 48) * 10 + ((48 + n % 10) - 48)) ≡ n
four_back n small = omega arith

year_back : (c : Civil) → c.year ≤ 9999 → year_of (stamp_of c) ≡ c.year
unfolding digits
year_back c small = four_back c.year small

month_back : (c : Civil) → c.month < 100 → two (stamp_of c) 5 ≡ c.month
unfolding digits
month_back c small = two_back c.month small

day_back : (c : Civil) → c.day < 100 → two (stamp_of c) 8 ≡ c.day
unfolding digits
day_back c small = two_back c.day small

hour_back : (c : Civil) → c.hour < 100 → two (stamp_of c) 11 ≡ c.hour
unfolding digits
hour_back c small = two_back c.hour small

minute_back : (c : Civil) → c.minute < 100 → two (stamp_of c) 14 ≡ c.minute
unfolding digits
minute_back c small = two_back c.minute small

second_back : (c : Civil) → c.second < 100 → two (stamp_of c) 17 ≡ c.second
unfolding digits
second_back c small = two_back c.second small

milli_back : (c : Civil) → c.milli < 1000 → two (stamp_of c) 20 * 10 + (slice_index (stamp_of c) 22 - 48) ≡ c.milli
unfolding digits
milli_back c small = three_back c.milli small

few_days : (feb leap short : Bool) → (if feb then (if leap then 29 else 28) else (if short then 30 else 31)) ≤ 31
few_days true true short = omega arith
few_days true false short = omega arith
few_days false leap true = omega arith
few_days false leap false = omega arith

days_few : (y : ℤ) (m : ℕ) → days_in_month y m ≤ 31
days_few y m = few_days (m == 2) (is_leap_year y) ((m == 4) || (m == 6) || (m == 9) || (m == 11))

civil_back : (c : Civil) → IsCivil c → civil_of (stamp_of c) ≡ c
civil_back c is =
    let top = is.date.0.1 in
    let year = year_back c (omega (arith, signed_arith, top)) in
    let month = month_back c (omega (arith, is.date.1.1)) in
    let day = day_back c (omega (arith, is.date.2.1, days_few (pos c.year) c.month)) in
    let hour = hour_back c (omega (arith, is.hour)) in
    let minute = minute_back c (omega (arith, is.minute)) in
    let second = second_back c (omega (arith, is.second)) in
    let milli = milli_back c is.milli in
    rw (year, month, day, hour, minute, second, milli) refl

-- its fields
pub civil_is : (text : List ℕ) → IsMomentStamp text → IsCivil (civil_of text) × (text ≡ stamp_of (civil_of text))
civil_is text is =
    let back : civil_of text ≡ is.0 = ap civil_of is.2 ∙ civil_back is.0 is.1 in
    (subst IsCivil (sym back) is.1, is.2 ∙ ap stamp_of (sym back))

pub moment_is : (text : List ℕ) (day ms : ℕ) → IsMomentStamp text → days_from_civil (pos (year_of text)) (two text 5) (two text 8) ≡ pos day
    → day ≤ 2932896 → ms ≡ day * 86400000 + time_of (civil_of text) → IsStampOf ms text × (ms ≤ 253402300799999)
moment_is text day ms is day_is few ms_is =
    let c = civil_is text is in
    let hour = c.0.hour in
    let minute = c.0.minute in
    let second = c.0.second in
    let milli = c.0.milli in
    let small : time_of (civil_of text) < 86400000 = omega (arith, hour, minute, second, milli) in
    let days : day ≡ ms / 86400000 = omega (arith, small, ms_is) in
    let time : time_of (civil_of text) ≡ ms % 86400000 = omega (arith, small, ms_is) in
    ((civil_of text, c.0, day_is ∙ ap pos days, time, c.1), omega (arith, small, ms_is, few))

-- a day since 1970 isn't before the first
late_enough : (y m d : ℕ) → 1970 ≤ y → IsCivilDate (pos y) m d → 4371953 ≤ day_count (pos y) m d
late_enough y m d since is =
    elim (cases_Bool (nat_lt 1970 y)) [
      | inl later ↦
          let before = day_count-lt_year (pos 1970) 1 1 (pos y) m d first is.2.0 (omega (arith, signed_arith, ltb-true 1970 y later)) in
          omega (arith, before, day_count-epoch)
      | inr same ↦
          let e : y ≡ 1970 = omega (arith, since, ltb-false 1970 y same) in
          rw e (omega (arith, day_count-day_of_year (pos 1970) m d is.2.0, day_count-epoch, is.2.0))
    ]
  where
    first : IsCivilDate (pos 1970) 1 1
    first = ((omega (arith, signed_arith), omega (arith, signed_arith)), (omega arith, omega arith), (omega arith, omega arith))

not_negative : (z : ℤ) (y m d : ℕ) → z ≡ days_from_civil (pos y) m d → 4371953 ≤ day_count (pos y) m d → z ≡ pos (unsigned_abs z)
not_negative (pos n) y m d e late = refl
not_negative (negsuc n) y m d e late = absurd (omega (arith, signed_arith, sym e, late, days_from_civil-day_count (pos y) m d))

pub day_is : (y m d : ℕ) → 1970 ≤ y → IsCivilDate (pos y) m d
    → days_from_civil (pos y) m d ≡ pos (unsigned_abs (days_from_civil (pos y) m d))
day_is y m d since is = not_negative (days_from_civil (pos y) m d) y m d refl (late_enough y m d since is)

-- the date of a moment's stamp
pub record IsDated (year month day : ℕ) : Type 0 where
  pub since : 1970 ≤ year
  pub until : year ≤ 9999
  pub months : month ≤ 12
  pub days : day ≤ 31
  pub date : IsCivilDate (pos year) month day

pub dated : (text : List ℕ) → IsMomentStamp text → IsDated (year_of text) (two text 5) (two text 8)
dated text is =
    let c = (civil_is text is).0 in
    record {
      since = c.since;
      until = let top = c.date.0.1 in omega (arith, signed_arith, top);
      months = c.date.1.1;
      days = let top = c.date.2.1 in let few = days_few (pos (year_of text)) (two text 5) in omega (arith, top, few);
      date = c.date;
    }

-- by the date that the calendar's library has
pub day_of_date : (z : ℤ) (r : ℕ) (dy : ℤ) (dm dd y m d : ℕ) → dy ≡ pos y → pos dm ≡ pos m → pos dd ≡ pos d → z ≡ days_from_civil dy dm dd
    → r ≡ unsigned_abs z → 1970 ≤ y → IsCivilDate (pos y) m d → z ≤ℤ pos 2932896
    → (days_from_civil (pos y) m d ≡ pos r) × (r ≤ 2932896)
day_of_date z r dy dm dd y m d year month day is abs since date last =
    let months : dm ≡ m = cc in
    let days : dd ≡ d = cc in
    let e : z ≡ days_from_civil (pos y) m d = is ∙ rw (year, months, days) refl in
    let up : z ≡ pos (unsigned_abs z) = not_negative z y m d e (late_enough y m d since date) in
    let top : pos (unsigned_abs z) ≤ℤ pos 2932896 = subst (λ (i : ℤ). i ≤ℤ pos 2932896) up last in
    (sym e ∙ up ∙ ap pos (sym abs), omega (arith, signed_arith, top, abs))
