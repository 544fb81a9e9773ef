-- A moment has one reading.
use Rattle.std.proofs.Common.{◌≡◌, ℕ, zero, suc, ◌+◌, ◌/◌, ◌<◌, ◌≤◌, Bool, true, false, nat_lt, if◌then◌else◌, arith, refl, sym, ◌∙◌, pos, neg_ℤ, ◌≤ℤ◌, ◌<ℤ◌, inl, inr}
use Rattle.std.specs.Int.{IsInRange}
use Rattle.std.proofs.lemmas.Bool.{cases_order}
use Rattle.std.proofs.lemmas.Bool.Decides.{nat_tests}
use Rattle.jiff_core.specs.Calendar.{day_count, days_from_civil, days_in_month, IsCivilDate, IsYear}
use Rattle.jiff_core.proofs.SignedLemmas.{signed_arith}
use Rattle.jiff_core.proofs.MarchLemmas.{day_count-early, day_count-late}
use Rattle.jiff_core.proofs.CalendarLemmas.{days_from_civil-day_count, days_in_month_bounds, day_count-lt_year, day_count-lt_month, day_count-day, day_count-next_month, day_count-next_year, day_count-last_of_year}
use Rattle.rtk_obs.specs.declared.time.Civil.{Civil}
use Rattle.rtk_obs.specs.Calendar.{ReadsAs}
use Rattle.rtk_obs.specs.Reading.{IsMoment, CivilDate, date_after, reading_of}

abbrev IsGoodDate : CivilDate → Type 0
IsGoodDate d = (1980 ≤ d.year) × IsInRange 1 12 d.month × IsInRange 1 (days_in_month (pos d.year) d.month) d.day

abbrev count : CivilDate → ℕ
count d = day_count (pos d.year) d.month d.day

next_if : CivilDate → Bool → Bool → CivilDate
next_if d b c =
    if b then record d { day = d.day + 1 }
    else (if c then record { year = d.year; month = d.month + 1; day = 1 } else record { year = d.year + 1; month = 1; day = 1 })

next_is : (d : CivilDate) (b c : Bool) → nat_lt d.day (days_in_month (pos d.year) d.month) ≡ b → nat_lt d.month 12 ≡ c
    → IsGoodDate d → IsGoodDate (next_if d b c) × (count (next_if d b c) ≡ count d + 1)
unfolding next_if
next_is d true c e f h =
    let less : d.day < days_in_month (pos d.year) d.month = grind (arith, nat_tests) in
    ((h.0, h.1, (omega arith, omega arith)), omega (arith, day_count-day (pos d.year) d.month d.day (d.day + 1) h.2.0 (omega arith)))
next_is d false true e f h =
    let last : days_in_month (pos d.year) d.month ≤ d.day = grind (arith, nat_tests) in
    let month : d.month < 12 = grind (arith, nat_tests) in
    let long = days_in_month_bounds (pos d.year) (d.month + 1) in (
      (h.0, (omega arith, omega arith), (omega arith, omega arith)),
      omega (arith, day_count-next_month (pos d.year) d.month h.1.0, day_count-day (pos d.year) d.month d.day 1 h.2.0 (omega arith)),
    )
next_is d false false e f h =
    let last : days_in_month (pos d.year) d.month ≤ d.day = grind (arith, nat_tests) in
    let month : d.month ≡ 12 = grind (arith, nat_tests) in
    let long = days_in_month_bounds (pos (d.year + 1)) 1 in
    let low : neg_ℤ (pos 10000) ≤ℤ pos d.year = omega (arith, signed_arith) in
    let day : d.day ≡ 31 = let whole = rw month at last in let most = rw month at h.2.1 in omega arith in (
      (omega arith, (omega arith, omega arith), (omega arith, omega arith)),
      rw (month, day) (omega (arith, day_count-next_year (pos d.year) (pos (d.year + 1)) low refl, day_count-last_of_year (pos d.year))),
    )

date_after-is : (k : ℕ) → IsGoodDate (date_after k) × (count (date_after k) ≡ 4_375_610 + k)
unfolding date_after next_if
date_after-is zero = ((omega arith, (omega arith, omega arith), (omega arith, omega arith)), day_count-early (pos 1980) 11979 1 6 refl (omega arith) (omega arith) (omega arith))
date_after-is (suc k) =
    let before = date_after-is k in
    let next = next_is (date_after k) _ _ refl refl before.0 in
    (next.0, omega (arith, next.1, before.1))

-- two dates of one year with one day number are the same
same_year : (y m d y₂ m₂ d₂ : ℕ) → IsCivilDate (pos y) m d → y ≡ y₂ → IsInRange 1 12 m₂ → IsInRange 1 (days_in_month (pos y₂) m₂) d₂
    → day_count (pos y) m d ≡ day_count (pos y₂) m₂ d₂ → (y ≡ y₂) × (m ≡ m₂) × (d ≡ d₂)
same_year y m d y₂ m₂ d₂ h year month day e =
    let count = rw (← year) at e in
    let days = rw (← year) at day in
    elim (cases_order m m₂) [
      | inr (inl lt) ↦ absurd (omega (arith, day_count-lt_month (pos y) m d m₂ d₂ h day.0 lt))
      | inr (inr gt) ↦ absurd (omega (arith, day_count-lt_month (pos y) m₂ d₂ m d (h.0, month, days) h.2.0 gt))
      | inl at ↦ (year, at, (let here = rw (← at) at count in omega (arith, day_count-day (pos y) m d d₂ h.2.0 day.0)))
    ]

-- two dates with one day number are the same
same_day : (y m d y₂ m₂ d₂ : ℕ) → IsCivilDate (pos y) m d → 1980 ≤ y₂ → IsInRange 1 12 m₂ → IsInRange 1 (days_in_month (pos y₂) m₂) d₂
    → day_count (pos y) m d ≡ day_count (pos y₂) m₂ d₂ → (y ≡ y₂) × (m ≡ m₂) × (d ≡ d₂)
same_day y m d y₂ m₂ d₂ h low month day e =
    elim (cases_order y y₂) [
      | inr (inl lt) ↦ absurd (let years : pos y <ℤ pos y₂ = omega (arith, signed_arith) in omega (arith, day_count-lt_year (pos y) m d (pos y₂) m₂ d₂ h day.0 years))
      | inr (inr gt) ↦ absurd (
          let years : pos y₂ <ℤ pos y = omega (arith, signed_arith) in
          let year : IsYear (pos y₂) = (omega (arith, signed_arith), omega (arith, signed_arith, h.0.1)) in
          omega (arith, day_count-lt_year (pos y₂) m₂ d₂ (pos y) m d (year, month, day) h.2.0 years))
      | inl year ↦ same_year y m d y₂ m₂ d₂ h year month day e
    ]

abbrev civil_with : ℕ → ℕ → ℕ → ℕ → ℕ → ℕ → ℕ → Civil
civil_with y m d h i s f = record { year = y; month = m; day = d; hour = h; minute = i; second = s; millisecond = f }

same_parts : (y m d h i s f y₂ m₂ d₂ h₂ i₂ s₂ f₂ : ℕ) → y ≡ y₂ → m ≡ m₂ → d ≡ d₂ → h ≡ h₂ → i ≡ i₂ → s ≡ s₂ → f ≡ f₂
    → civil_with y m d h i s f ≡ civil_with y₂ m₂ d₂ h₂ i₂ s₂ f₂
same_parts y m d h i s f y₂ m₂ d₂ h₂ i₂ s₂ f₂ e₁ e₂ e₃ e₄ e₅ e₆ e₇ = cc

pub same_civil : (c d : Civil) → c.year ≡ d.year → c.month ≡ d.month → c.day ≡ d.day → c.hour ≡ d.hour → c.minute ≡ d.minute
    → c.second ≡ d.second → c.millisecond ≡ d.millisecond → c ≡ d
same_civil c d year month day hour minute second millisecond =
    same_parts c.year c.month c.day c.hour c.minute c.second c.millisecond d.year d.month d.day d.hour d.minute d.second d.millisecond
    year month day hour minute second millisecond

-- what reads a moment is its reading
pub reading_is : (t : ℕ) (c : Civil) → ReadsAs t c → c ≡ reading_of t
reading_is t c h =
    let k = t / 86_400_000 in
    let date = date_after k in
    let good = date_after-is k in
    let on : day_count (pos c.year) c.month c.day ≡ 4_375_610 + k = omega (arith, signed_arith, days_from_civil-day_count (pos c.year) c.month c.day, h.0.1) in
    let same = same_day c.year c.month c.day date.year date.month date.day h.0.0 good.0.0 good.0.1 good.0.2 (on ∙ sym good.1) in
    same_civil c (reading_of t) same.0 same.1 same.2 (omega (arith, h.1, h.2)) (omega (arith, h.1, h.2)) (omega (arith, h.1, h.2)) (omega (arith, h.1, h.2))

is_civil_2100 : IsCivilDate (pos 2100) 12 31
is_civil_2100 = ((omega (arith, signed_arith), omega (arith, signed_arith)), (omega arith, omega arith), (omega arith, omega arith))

count_2100 : day_count (pos 2100) 12 31 ≡ 4_419_799
count_2100 = day_count-late (pos 2100) 12100 12 31 refl (omega arith) (omega arith) (omega arith)

-- the days of a moment are of 2100 or earlier
pub year-bound : (k : ℕ) → k ≤ 44_189 → (date_after k).year ≤ 2100
year-bound k h =
    let date = date_after k in
    let good = date_after-is k in
    elim (cases_order date.year 2100) [
      | inl same ↦ omega arith
      | inr (inl below) ↦ omega arith
      | inr (inr above) ↦ absurd (
          let years : pos 2100 <ℤ pos date.year = omega (arith, signed_arith) in
          omega (arith, count_2100, good.1, day_count-lt_year (pos 2100) 12 31 (pos date.year) date.month date.day is_civil_2100 good.0.2.0 years))
    ]

-- the reading of a moment reads it
pub reading-reads : (t : ℕ) → IsMoment t → ReadsAs t (reading_of t)
reading-reads t h =
    let k = t / 86_400_000 in
    let date = date_after k in
    let good = date_after-is k in
    let late : date.year ≤ 2100 = year-bound k (omega arith) in
    let year : IsYear (pos date.year) = (omega (arith, signed_arith), omega (arith, signed_arith)) in
    let day : days_from_civil (pos date.year) date.month date.day ≡ pos (3657 + k) = omega (arith, signed_arith, days_from_civil-day_count (pos date.year) date.month date.day, good.1) in
    (((year, good.0.1, good.0.2), day), (omega arith, omega arith, omega arith, omega arith), omega arith)
