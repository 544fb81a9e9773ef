-- The years that a moment can have, and the moment of a reading.
use Rattle.std.proofs.Common.{◌≡◌, ℕ, ◌+◌, ◌≤◌, arith, refl, ap, Option, Some, None, ℤ, pos, ◌+ℤ◌, ◌≤ℤ◌, ◌<ℤ◌}
use Rattle.std.specs.Prelude.{MatchOption}
use Rattle.rtk_obs.specs.declared.time.Civil.{Civil}
use Rattle.rtk_obs.specs.declared.time.TheConstants.{LAST_MS}
use Rattle.rtk_obs.specs.Calendar.{ReadsAs}
use Rattle.std.proofs.lemmas.Int.{by_lt_z}
use Rattle.jiff_core.specs.declared.civil.date.Date.{Date}
use Rattle.jiff_core.specs.Calendar.{day_count, IsCivilDate}
use Rattle.jiff_core.specs.Date.{epoch_day}
use Rattle.jiff_core.proofs.SignedLemmas.{signed_arith}
use Rattle.jiff_core.proofs.DateLemmas.{civil}
use Rattle.jiff_core.proofs.MarchLemmas.{day_count-early, day_count-late}
use Rattle.jiff_core.proofs.CalendarLemmas.{days_from_civil-day_count, day_count-lt_year}

count_1980 : day_count (pos 1980) 1 1 ≡ 4_375_605
count_1980 = day_count-early (pos 1980) 11979 1 1 refl (omega arith) (omega arith) (omega arith)

count_2100 : day_count (pos 2100) 12 31 ≡ 4_419_799
count_2100 = day_count-late (pos 2100) 12100 12 31 refl (omega arith) (omega arith) (omega arith)

is_civil_2100 : IsCivilDate (pos 2100) 12 31
is_civil_2100 = ((omega (arith, signed_arith), omega (arith, signed_arith)), (omega arith, omega arith), (omega arith, omega arith))

-- a day on or after 1980-01-06 is of 1980 or later
from_1980 : (d : Date) → pos 3657 ≤ℤ epoch_day d → pos 1980 ≤ℤ d.year
from_1980 d h =
    by_lt_z d.year (pos 1980)
    (λ lt. absurd (omega (arith, signed_arith, days_from_civil-day_count d.year d.month d.day, count_1980, day_count-lt_year _ _ _ (pos 1980) 1 1 (civil d) (omega arith) lt)))
    (λ ge. ge)

-- a day on or before 2100-12-31 is of 2100 or earlier
to_2100 : (d : Date) → epoch_day d ≤ℤ pos 47_846 → d.year ≤ℤ pos 2100
to_2100 d h =
    by_lt_z (pos 2100) d.year
    (λ lt. absurd (omega (arith, signed_arith, days_from_civil-day_count d.year d.month d.day, count_2100, day_count-lt_year (pos 2100) 12 31 d.year d.month d.day is_civil_2100 (civil d).2.0 lt)))
    (λ ge. ge)

-- the year of the day k days after 1980-01-06
pub year_bounds : (d : Date) (k : ℕ) → epoch_day d +ℤ pos 4_371_587 ≡ pos (4_375_244 + k) → k ≤ 44_189 → (pos 1980 ≤ℤ d.year) × (d.year ≤ℤ pos 2100)
year_bounds d k e h = (from_1980 d (omega (arith, signed_arith)), to_2100 d (omega (arith, signed_arith)))

pub within : (n : ℕ) (y : ℤ) → pos n ≡ y → (pos 1980 ≤ℤ y) × (y ≤ℤ pos 2100) → (1980 ≤ n) × (n ≤ 2100)
within n y e h = (omega (arith, signed_arith), omega (arith, signed_arith))

count_2101 : day_count (pos 2101) 1 1 ≡ 4_419_800
count_2101 = day_count-early (pos 2101) 12100 1 1 refl (omega arith) (omega arith) (omega arith)

-- a reading of a year up to 2100 is of a day before 2101-01-01
pub up_to_2100 : (t : ℕ) (c : Civil) → ReadsAs t c → c.year ≤ 2100 → t ≤ 3_818_015_999_999
up_to_2100 t c r h =
    let before : pos c.year <ℤ pos 2101 = omega (arith, signed_arith) in
    omega (arith, signed_arith, r.0.1, days_from_civil-day_count (pos c.year) c.month c.day, count_2101, day_count-lt_year (pos c.year) c.month c.day (pos 2101) 1 1 r.0.0 (omega arith) before)

-- ---- the moment of a reading

pub one_moment : (s t : ℕ) (c : Civil) → ReadsAs s c → ReadsAs t c → s ≡ t
one_moment s t c p q = omega (arith, signed_arith, p, q)

-- the answer to the reading of a moment is the moment
pub reads_back : (t : ℕ) (c : Civil) (answer : Option ℕ) → t ≤ LAST_MS → ReadsAs t c → MatchOption answer ((s : ℕ) → s ≤ LAST_MS → ¬ (ReadsAs s c)) (λ s. ReadsAs s c) → answer ≡ Some t
reads_back t c None before is m = absurd (m t before is)
reads_back t c (Some s) before is m = ap (λ (n : ℕ). Some n) (one_moment s t c m is)
