-- Each moment has a stamp: each day number, counted from 1970-01-01, is that of a date.
use Rattle.std.proofs.Common.{◌≡◌, ℕ, zero, suc, ◌+◌, ◌/◌, ◌%◌, ◌<◌, ◌≤◌, inl, inr, List, refl, ◌∙◌, ap, subst, pos, arith, rules}
use Rattle.std.proofs.lemmas.Bool.{cases_lt}
use Rattle.jiff_core.specs.Calendar.{IsCivilDate, days_in_month, days_from_civil}
use Rattle.jiff_core.specs.declared.civil.date.Date.{Date}
use Rattle.jiff_core.proofs.SignedLemmas.{signed_arith}
use Rattle.jiff_core.proofs.CalendarLemmas.{days_in_month_bounds}
use Rattle.jiff_core.proofs.DateLemmas.{days_from_civil-day, days_from_civil-next_month, days_from_civil-next_year, days_from_civil-max}
use Rattle.jiff_core.proofs.StandardFacts.{known_days}
use Rattle.as4_values.specs.Moment.{IsStampOf, stamp_of}
use Rattle.as4_values.proofs.MomentLemmas.{date_from, civil_at, stamp_is_of}
use Rattle.as4_values.specs.declared.moment.TheConstants.{MAX_MOMENT}

-- a date since 1970 has this day number
pub record IsDay (n y m d : ℕ) : Type 0 where
  pub date : IsCivilDate (pos y) m d
  pub day : days_from_civil (pos y) m d ≡ pos n

abbrev HasDay : ℕ → Type 0
HasDay n = (y : ℕ) × (m : ℕ) × (d : ℕ) × IsDay n y m d

first_day : HasDay 0
first_day = (1970, 1, 1, record { date = search rules; day = known_days.0 })

-- the next day of a month
same_month : (n y m d : ℕ) → IsDay n y m d → d < days_in_month (pos y) m → HasDay (suc n)
same_month n y m d is below = (
  y,
  m,
  d + 1,
  record {
    date = (is.date.0, is.date.1, (omega arith, omega arith));
    day = let first : 1 ≤ d = is.date.2.0 in omega (arith, signed_arith, is.day, days_from_civil-day (pos y) m d (d + 1) first (omega arith));
  },
)

-- the first day of a month, after the last of the previous one
next_month : (n y m d : ℕ) → IsDay n y m d → d ≡ days_in_month (pos y) m → m < 12 → HasDay (suc n)
next_month n y m d is last below =
    let month : 1 ≤ m = is.date.1.0 in
    let long = days_in_month_bounds (pos y) (m + 1) in (
      y,
      m + 1,
      1,
      record {
        date = (is.date.0, (omega arith, omega arith), (omega arith, omega arith));
        day = omega (arith, signed_arith, is.day, days_from_civil-next_month (pos y) m d month last);
      },
    )

-- 1 January after 31 December
next_year : (n y d : ℕ) → IsDay n y 12 d → d ≡ 31 → y < 9999 → HasDay (suc n)
next_year n y d is last below = (
  y + 1,
  1,
  1,
  record {
    date = ((search (rules, signed_arith, below), omega (arith, signed_arith)), (omega arith, omega arith), (omega arith, omega arith));
    day = omega (arith, signed_arith, is.day, ap (days_from_civil (pos y) 12) last, days_from_civil-next_year (pos y) (pos (y + 1)) (omega (arith, signed_arith)) (omega (arith, signed_arith)));
  },
)

-- the day after the end of a month
last_of_month : (n y m d : ℕ) → n < 2932896 → IsDay n y m d → d ≡ days_in_month (pos y) m → HasDay (suc n)
last_of_month n y m d before is last = elim (cases_lt m 12) [
  | inl below ↦ next_month n y m d is last below
  | inr end ↦ (let month : m ≤ 12 = is.date.1.1 in december m is last (omega arith))
]
  where
    too_late : IsDay n y 12 d → d ≡ 31 → 9999 ≤ y → ⊥
    too_late here long late =
        let year : y ≡ 9999 = omega (arith, signed_arith, here.date.0) in
        let day : days_from_civil (pos y) 12 d ≡ pos 2932896 =
        ap (λ (k : ℕ). days_from_civil (pos k) 12 d) year ∙ ap (days_from_civil (pos 9999) 12) long ∙ days_from_civil-max in
        omega (arith, signed_arith, here.day)

    december : (k : ℕ) → IsDay n y k d → d ≡ days_in_month (pos y) k → k ≡ 12 → HasDay (suc n)
    december k there end e =
        let here : IsDay n y 12 d = subst (λ (j : ℕ). IsDay n y j d) e there in
        let long : d ≡ 31 = end ∙ ap (days_in_month (pos y)) e in
        elim (cases_lt y 9999) [
          | inl below ↦ next_year n y d here long below
          | inr late ↦ absurd (too_late here long late)
        ]

next_day : (n y m d : ℕ) → n < 2932896 → IsDay n y m d → HasDay (suc n)
next_day n y m d before is = elim (cases_lt d (days_in_month (pos y) m)) [
  | inl below ↦ same_month n y m d is below
  | inr end ↦ last_of_month n y m d before is (let most : d ≤ days_in_month (pos y) m = is.date.2.1 in omega arith)
]

days : (n : ℕ) → n ≤ 2932896 → HasDay n
days zero few = first_day
days (suc n) few = let day = days n (omega arith) in next_day n day.0 day.1 day.2 (omega arith) day.3

-- up to the end of the year 9999
pub some_stamp : (ms : ℕ) → ms ≤ MAX_MOMENT → (stamp : List ℕ) × IsStampOf ms stamp
unfolding date_from
some_stamp ms dated =
    let day = days (ms / 86400000) (omega arith) in
    let date : Date = date_from (pos day.0) day.1 day.2 day.3.date in
    let stamp : List ℕ = stamp_of (civil_at date (ms % 86400000)) in
    (stamp, stamp_is_of ms date stamp day.3.day refl)
