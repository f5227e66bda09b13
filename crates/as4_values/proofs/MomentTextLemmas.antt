-- The stamps of moments: each is a stamp, and its form and its fields determine it.
use Rattle.std.proofs.Common.{◌≡◌, ℕ, zero, suc, ◌+◌, ◌-◌, ◌*◌, ◌/◌, ◌%◌, ◌<◌, ◌≤◌, List, [], ◌∷◌, Bool, true, false, Option, Some, None, if◌then◌else◌, ◌||◌, length, drop, get_or, pos, ◌==◌, lit<, arith, refl, sym, ap, ◌∙◌, add-one, drop-cons}
use Rattle.std.specs.Prelude.{IsTrue, is_some, not, codes, slice_index}
use Rattle.std.specs.Int.{IsInRange}
use Rattle.std.proofs.lemmas.Bool.Decides.{nat_tests}
use Rattle.std.proofs.Math.ListN.{drop_of_length-le}
use Rattle.jiff_core.specs.Calendar.{IsYear, IsCivilDate, days_in_month}
use Rattle.jiff_core.proofs.SignedLemmas.{signed_arith}
use Rattle.jiff_core.proofs.CalendarLemmas.{days_in_month_bounds}
use Rattle.as4_values.specs.Moment.{Civil, IsCivil, digits, stamp_of, IsMomentStamp, IsStampOf}
use Rattle.as4_values.specs.Stamp.{fits_byte, Fits, IsStamp, two, year_of, has_offset, outside, wrong_offset, wrong_field}
use Rattle.as4_values.proofs.FormLemmas.{digit_of_form, mark_of_form, mark_fits, fits_none, utc_zone}

-- the form of a moment's stamp
abbrev pub moment_form : List ℕ
moment_form = codes "0000-00-00T00:00:00.000Z"

-- the fields of a text of the form
abbrev pub civil_of : List ℕ → Civil
civil_of text = record {
  year = year_of text;
  month = two text 5;
  day = two text 8;
  hour = two text 11;
  minute = two text 14;
  second = two text 17;
  milli = two text 20 * 10 + (slice_index text 22 - 48);
}

-- the digits of numbers

two_digits : (a b : ℕ) → IsInRange 48 57 a → IsInRange 48 57 b → digits 2 ((a - 48) * 10 + (b - 48)) ≡ a ∷ b ∷ []
unfolding digits
two_digits a b a_in b_in =
    let tens : 48 + ((a - 48) * 10 + (b - 48)) / 10 % 10 ≡ a = omega arith in
    let ones : 48 + ((a - 48) * 10 + (b - 48)) % 10 ≡ b = omega arith in
    cc

three_digits : (a b c : ℕ) → IsInRange 48 57 a → IsInRange 48 57 b → IsInRange 48 57 c
    → digits 3 (((a - 48) * 10 + (b - 48)) * 10 + (c - 48)) ≡ a ∷ b ∷ c ∷ []
unfolding digits
three_digits a b c a_in b_in c_in =
    let n : ℕ = ((a - 48) * 10 + (b - 48)) * 10 + (c - 48) in
    let first : 48 + n / 10 / 10 % 10 ≡ a = omega arith in
    let second : 48 + n / 10 % 10 ≡ b = omega arith in
    let third : 48 + n % 10 ≡ c = omega arith in
    cc

four_digits : (a b c d : ℕ) → IsInRange 48 57 a → IsInRange 48 57 b → IsInRange 48 57 c → IsInRange 48 57 d
    → digits 4 (((a - 48) * 10 + (b - 48)) * 100 + ((c - 48) * 10 + (d - 48))) ≡ a ∷ b ∷ c ∷ d ∷ []
unfolding digits
four_digits a b c d a_in b_in c_in d_in =
    let n : ℕ = ((a - 48) * 10 + (b - 48)) * 100 + ((c - 48) * 10 + (d - 48)) in
    let first : 48 + n / 10 / 10 / 10 % 10 ≡ a = omega arith in
    let second : 48 + n / 10 / 10 % 10 ≡ b = omega arith in
    let third : 48 + n / 10 % 10 ≡ c = omega arith in
    let fourth : 48 + n % 10 ≡ d = omega arith in
    cc

-- the number that its own digits write

two_back : (n : ℕ) → n < 100 → (48 + n / 10 % 10 - 48) * 10 + (48 + n % 10 - 48) ≡ n
two_back n small = omega arith

four_back : (n : ℕ) → n < 10000
    → ((48 + n / 10 / 10 / 10 % 10 - 48) * 10 + (48 + n / 10 / 10 % 10 - 48)) * 100 + ((48 + n / 10 % 10 - 48) * 10 + (48 + n % 10 - 48)) ≡ n
four_back n small = omega arith

-- a text, from its bytes

abbrev bytes_from : List ℕ → ℕ → ℕ → List ℕ
bytes_from text at zero = []
bytes_from text at (suc n) = get_or text at 0 ∷ bytes_from text (at + 1) n

drop-bytes_from : (text : List ℕ) (at n : ℕ) → length text ≡ at + n → drop at text ≡ bytes_from text at n
drop-bytes_from text at zero len = drop_of_length-le text (omega arith)
drop-bytes_from text at (suc n) len =
    let within : at < length text = omega arith in
    drop-cons text at 0 within ∙ ap (λ rest. get_or text at 0 ∷ rest) (ap (λ i. drop i text) (sym (add-one at)) ∙ drop-bytes_from text (at + 1) n (omega arith))

read_back : (text : List ℕ) → length text ≡ 24 → Fits moment_form text 24 → text ≡ stamp_of (civil_of text)
read_back text len all =
    let fits : (k : ℕ) → k < 24 → IsTrue (fits_byte (get_or moment_form k 0) (get_or text k 0)) = all.each in
    let digit_at : (k : ℕ) → k < 24 → get_or moment_form k 0 ≡ 48 → IsInRange 48 57 (get_or text k 0) =
    λ k within is. digit_of_form (get_or text k 0) (rw is at (fits k within)) in
    let bytes : text ≡ bytes_from text 0 24 = drop-bytes_from text 0 24 len in
    let b4 : get_or text 4 0 ≡ 45 = mark_of_form 45 (get_or text 4 0) (λ e. omega arith) (fits 4 (lit< tt)) in
    let b7 : get_or text 7 0 ≡ 45 = mark_of_form 45 (get_or text 7 0) (λ e. omega arith) (fits 7 (lit< tt)) in
    let b10 : get_or text 10 0 ≡ 84 = mark_of_form 84 (get_or text 10 0) (λ e. omega arith) (fits 10 (lit< tt)) in
    let b13 : get_or text 13 0 ≡ 58 = mark_of_form 58 (get_or text 13 0) (λ e. omega arith) (fits 13 (lit< tt)) in
    let b16 : get_or text 16 0 ≡ 58 = mark_of_form 58 (get_or text 16 0) (λ e. omega arith) (fits 16 (lit< tt)) in
    let b19 : get_or text 19 0 ≡ 46 = mark_of_form 46 (get_or text 19 0) (λ e. omega arith) (fits 19 (lit< tt)) in
    let b23 : get_or text 23 0 ≡ 90 = mark_of_form 90 (get_or text 23 0) (λ e. omega arith) (fits 23 (lit< tt)) in
    let year = four_digits (get_or text 0 0) (get_or text 1 0) (get_or text 2 0) (get_or text 3 0)
    (digit_at 0 (lit< tt) refl) (digit_at 1 (lit< tt) refl) (digit_at 2 (lit< tt) refl) (digit_at 3 (lit< tt) refl) in
    let month = two_digits (get_or text 5 0) (get_or text 6 0) (digit_at 5 (lit< tt) refl) (digit_at 6 (lit< tt) refl) in
    let day = two_digits (get_or text 8 0) (get_or text 9 0) (digit_at 8 (lit< tt) refl) (digit_at 9 (lit< tt) refl) in
    let hour = two_digits (get_or text 11 0) (get_or text 12 0) (digit_at 11 (lit< tt) refl) (digit_at 12 (lit< tt) refl) in
    let minute = two_digits (get_or text 14 0) (get_or text 15 0) (digit_at 14 (lit< tt) refl) (digit_at 15 (lit< tt) refl) in
    let second = two_digits (get_or text 17 0) (get_or text 18 0) (digit_at 17 (lit< tt) refl) (digit_at 18 (lit< tt) refl) in
    let milli = three_digits (get_or text 20 0) (get_or text 21 0) (get_or text 22 0)
    (digit_at 20 (lit< tt) refl) (digit_at 21 (lit< tt) refl) (digit_at 22 (lit< tt) refl) in
    bytes ∙ rw (year, month, day, hour, minute, second, milli, b4, b7, b10, b13, b16, b19, b23) refl

-- the form of the stamp of a moment

digit_fits : (n : ℕ) → IsTrue (fits_byte 48 (48 + n % 10))
unfolding fits_byte
digit_fits n = grind (arith, nat_tests)

-- each byte of the form fits
abbrev AllFit : List ℕ → List ℕ → Type 0
AllFit [] text = Unit {0}
AllFit (w ∷ form) [] = ⊥
AllFit (w ∷ form) (b ∷ text) = IsTrue (fits_byte w b) × AllFit form text

each_more : (w b : ℕ) (form text : List ℕ) → IsTrue (fits_byte w b)
    → ((k : ℕ) → k < length form → IsTrue (fits_byte (get_or form k 0) (get_or text k 0)))
    → (k : ℕ) → k < length (w ∷ form) → IsTrue (fits_byte (get_or (w ∷ form) k 0) (get_or (b ∷ text) k 0))
each_more w b form text here each zero below = here
each_more w b form text here each (suc k) below = each k (omega arith)

one_more : (w b : ℕ) (form text : List ℕ) → IsTrue (fits_byte w b) → Fits form text (length form) → Fits (w ∷ form) (b ∷ text) (length (w ∷ form))
one_more w b form text here fits = record {
  in_form = omega arith;
  in_text = omega (arith, fits.in_text);
  each = each_more w b form text here fits.each;
}

all_fit : (form text : List ℕ) → AllFit form text → Fits form text (length form)
all_fit [] text all = fits_none [] text
all_fit (w ∷ form) [] all = absurd all
all_fit (w ∷ form) (b ∷ text) all = one_more w b form text all.0 (all_fit form text all.1)

moment_fits : (c : Civil) → Fits moment_form (stamp_of c) 24
unfolding digits
moment_fits c = all_fit moment_form (stamp_of c) (digit_fits (c.year / 10 / 10 / 10), (digit_fits (c.year / 10 / 10), (digit_fits (c.year / 10), (digit_fits (c.year), (mark_fits 45 (λ e. omega arith), (digit_fits (c.month / 10), (digit_fits (c.month), (mark_fits 45 (λ e. omega arith), (digit_fits (c.day / 10), (digit_fits (c.day), (mark_fits 84 (λ e. omega arith), (digit_fits (c.hour / 10), (digit_fits (c.hour), (mark_fits 58 (λ e. omega arith), (digit_fits (c.minute / 10), (digit_fits (c.minute), (mark_fits 58 (λ e. omega arith), (digit_fits (c.second / 10), (digit_fits (c.second), (mark_fits 46 (λ e. omega arith), (digit_fits (c.milli / 10 / 10), (digit_fits (c.milli / 10), (digit_fits (c.milli), (mark_fits 90 (λ e. omega arith), tt))))))))))))))))))))))))

length-stamp_of : (c : Civil) → length (stamp_of c) ≡ 24
unfolding digits
length-stamp_of c = refl

-- fields within their ranges

inside : (low high n : ℕ) → low ≤ n → n ≤ high → outside low high n ≡ false
unfolding outside
inside low high n above below = grind (arith, nat_tests)

pub inside_is : (low high n : ℕ) → outside low high n ≡ false → (low ≤ n) × (n ≤ high)
unfolding outside
inside_is low high n is = grind (arith, nat_tests)

day_bound : (year month : ℕ) → days_in_month (pos year) month ≤ 31
day_bound year month = (days_in_month_bounds (pos year) month).0

year_of_date : (year month day : ℕ) → IsCivilDate (pos year) month day → year ≤ 9999
year_of_date year month day is = omega (arith, signed_arith, is.0.1)

year_is : (year : ℕ) → year ≤ 9999 → IsYear (pos year)
year_is year small = (omega (arith, signed_arith), omega (arith, signed_arith))

-- the first of six tests that holds, and else another result
abbrev first_of_six : Bool → Bool → Bool → Bool → Bool → Bool → Option ℕ → Option ℕ
first_of_six a b c d e f r =
    if a then Some 0 else if b then Some 5 else if c then Some 8 else if d then Some 11 else if e then Some 14 else if f then Some 17 else r

none_holds : (a b c d e f : Bool) (r : Option ℕ) → first_of_six a b c d e f r ≡ None
    → (a ≡ false) × (b ≡ false) × (c ≡ false) × (d ≡ false) × (e ≡ false) × (f ≡ false)
none_holds true b c d e f r h = cc
none_holds false true c d e f r h = cc
none_holds false false true d e f r h = cc
none_holds false false false true e f r h = cc
none_holds false false false false true f r h = cc
none_holds false false false false false true r h = cc
none_holds false false false false false false r h = (refl, refl, refl, refl, refl, refl)

fields_right : (text : List ℕ) → wrong_field text ≡ None
    → (outside 1 9999 (year_of text) ≡ false) × (outside 1 12 (two text 5) ≡ false)
    × (outside 1 (days_in_month (pos (year_of text)) (two text 5)) (two text 8) ≡ false)
    × (outside 0 23 (two text 11) ≡ false) × (outside 0 59 (two text 14) ≡ false) × (outside 0 59 (two text 17) ≡ false)
unfolding wrong_field
fields_right text none =
    none_holds (outside 1 9999 (year_of text)) (outside 1 12 (two text 5)) (outside 1 (days_in_month (pos (year_of text)) (two text 5)) (two text 8))
    (outside 0 23 (two text 11)) (outside 0 59 (two text 14)) (outside 0 59 (two text 17))
    (if has_offset text then wrong_offset text (length text - 5) else None) none

no_wrong_field : (text : List ℕ) → outside 1 9999 (year_of text) ≡ false → outside 1 12 (two text 5) ≡ false
    → outside 1 (days_in_month (pos (year_of text)) (two text 5)) (two text 8) ≡ false
    → outside 0 23 (two text 11) ≡ false → outside 0 59 (two text 14) ≡ false → outside 0 59 (two text 17) ≡ false
    → has_offset text ≡ false → wrong_field text ≡ None
unfolding wrong_field
no_wrong_field text year month day hour minute second local = rw (year, month, day, hour, minute, second, local) refl

-- the fields of the stamp of a moment

year_back : (c : Civil) → c.year ≤ 9999 → year_of (stamp_of c) ≡ c.year
unfolding digits
year_back c small = four_back c.year (omega arith)

month_back : (c : Civil) → c.month < 100 → two (stamp_of c) 5 ≡ c.month
unfolding digits
month_back c small = two_back c.month small

day_back : (c : Civil) → c.day < 100 → two (stamp_of c) 8 ≡ c.day
unfolding digits
day_back c small = two_back c.day small

hour_back : (c : Civil) → c.hour < 100 → two (stamp_of c) 11 ≡ c.hour
unfolding digits
hour_back c small = two_back c.hour small

minute_back : (c : Civil) → c.minute < 100 → two (stamp_of c) 14 ≡ c.minute
unfolding digits
minute_back c small = two_back c.minute small

second_back : (c : Civil) → c.second < 100 → two (stamp_of c) 17 ≡ c.second
unfolding digits
second_back c small = two_back c.second small

digit_no_sign : (n : ℕ) → ((48 + n % 10 == 43) || (48 + n % 10 == 45)) ≡ false
digit_no_sign n = grind (arith, nat_tests)

moment_is_utc : (c : Civil) → has_offset (stamp_of c) ≡ false
unfolding digits
moment_is_utc c = digit_no_sign c.second

moment_fields : (c : Civil) → IsCivil c → (1970 ≤ year_of (stamp_of c)) × (wrong_field (stamp_of c) ≡ None)
moment_fields c is =
    let year_in = year_of_date c.year c.month c.day is.date in
    let last = day_bound c.year c.month in
    let year = year_back c year_in in
    let month = month_back c (omega (arith, is.date.1.1)) in
    let day = day_back c (omega (arith, is.date.2.1, last)) in
    let hour = hour_back c (omega (arith, is.hour)) in
    let minute = minute_back c (omega (arith, is.minute)) in
    let second = second_back c (omega (arith, is.second)) in (
      rw year is.since,
      no_wrong_field (stamp_of c)
          (rw year (inside 1 9999 c.year (omega (arith, is.since)) year_in))
          (rw month (inside 1 12 c.month is.date.1.0 is.date.1.1))
          (rw (year, month, day) (inside 1 (days_in_month (pos c.year) c.month) c.day is.date.2.0 is.date.2.1))
          (rw hour (inside 0 23 c.hour (omega arith) (omega (arith, is.hour))))
          (rw minute (inside 0 59 c.minute (omega arith) (omega (arith, is.minute))))
          (rw second (inside 0 59 c.second (omega arith) (omega (arith, is.second))))
          (moment_is_utc c),
    )

-- the properties of a moment's stamp: its form and its fields

pub record IsOfMoment (text : List ℕ) : Type 0 where
  pub len : length text ≡ 24
  pub fits : Fits moment_form text 24
  pub since : 1970 ≤ year_of text
  pub fields : wrong_field text ≡ None

pub of_parts : (text : List ℕ) → length text ≡ 24 → Fits moment_form text 24 → 1970 ≤ year_of text → wrong_field text ≡ None → IsOfMoment text
of_parts text len fits since fields = record { len = len; fits = fits; since = since; fields = fields }

pub of_moment : (text : List ℕ) → IsMomentStamp text → IsOfMoment text
of_moment text is =
    let fields = moment_fields is.0 is.1 in
    rw is.2 (of_parts (stamp_of is.0) (length-stamp_of is.0) (moment_fits is.0) fields.0 fields.1)

milli_bound : (text : List ℕ) → Fits moment_form text 24 → (civil_of text).milli < 1000
milli_bound text all =
    let first : IsInRange 48 57 (get_or text 20 0) = digit_of_form (get_or text 20 0) (all.each 20 (lit< tt)) in
    let second : IsInRange 48 57 (get_or text 21 0) = digit_of_form (get_or text 21 0) (all.each 21 (lit< tt)) in
    let third : IsInRange 48 57 (get_or text 22 0) = digit_of_form (get_or text 22 0) (all.each 22 (lit< tt)) in
    omega (arith, first.1, second.1, third.1)

pub is_moment : (text : List ℕ) → IsOfMoment text → IsMomentStamp text
is_moment text is =
    let tests = fields_right text is.fields in
    let year = inside_is 1 9999 (year_of text) tests.0 in
    let month = inside_is 1 12 (two text 5) tests.1 in
    let day = inside_is 1 (days_in_month (pos (year_of text)) (two text 5)) (two text 8) tests.2 in
    let hour = inside_is 0 23 (two text 11) tests.3 in
    let minute = inside_is 0 59 (two text 14) tests.4 in
    let second = inside_is 0 59 (two text 17) tests.5 in (
      civil_of text,
      record {
        since = is.since;
        date = (year_is (year_of text) year.1, month, day);
        hour = omega (arith, hour.1);
        minute = omega (arith, minute.1);
        second = omega (arith, second.1);
        milli = milli_bound text is.fits;
      },
      read_back text is.len is.fits,
    )

-- the stamp of a moment is a stamp
pub moment_is_stamp : (text : List ℕ) → IsMomentStamp text → IsStamp text
moment_is_stamp text is =
    let told = of_moment text is in
    ((moment_form, (3, codes "Z", omega arith, utc_zone, refl), sym told.len, rw told.len told.fits), told.fields)

pub stamp_of_moment : (ms : ℕ) (text : List ℕ) → IsStampOf ms text → IsStamp text
stamp_of_moment ms text is = moment_is_stamp text (is.0, is.1, is.4)

-- tests of Boolean and optional results

pub not_true : IsTrue false → ⊥
not_true t = cc

pub none_told : (r : Option ℕ) (b : Bool) → is_some r ≡ not b → IsTrue b → r ≡ None
none_told None b is told = refl
none_told (Some at) true is told = cc
none_told (Some at) false is told = cc

pub none_tells : (r : Option ℕ) (b : Bool) → is_some r ≡ not b → r ≡ None → IsTrue b
none_tells None true is none = refl
none_tells None false is none = cc
none_tells (Some at) b is none = cc
