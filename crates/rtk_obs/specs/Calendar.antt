-- Civil readings of a moment of GPS time.
use Rattle.std.specs.Prelude.{◌≡◌, ℕ, ◌+◌, ◌*◌, ◌<◌, ◌≤◌, ◌/◌, ◌%◌, pos}
use Rattle.jiff_core.specs.Calendar.{IsCivilDate, days_from_civil}
use Rattle.rtk_obs.specs.declared.time.Civil.{Civil}

-- formula
-- the reading's date is a day of the Gregorian calendar, k days after 1980-01-06, which is 3657
-- days after 1970-01-01
abbrev pub IsOnDay : ℕ → Civil → Type 0
IsOnDay k c =
    IsCivilDate (pos c.year) c.month c.day × (days_from_civil (pos c.year) c.month c.day ≡ pos (3657 + k))

-- formula
-- the reading shows a time of day, without leap seconds
abbrev pub IsTimeOfDay : Civil → Type 0
IsTimeOfDay c = (c.hour < 24) × (c.minute < 60) × (c.second < 60) × (c.millisecond < 1000)

-- formula
-- the milliseconds since midnight
abbrev pub ms_of_day : Civil → ℕ
ms_of_day c = ((c.hour * 60 + c.minute) * 60 + c.second) * 1000 + c.millisecond

-- formula
-- the reading's day is as many days after 1980-01-06 as the moment has whole days of 86,400
-- seconds, and its time of day is the rest (this project's rule: GPS time is read without leap
-- seconds)
abbrev pub ReadsAs : ℕ → Civil → Type 0
ReadsAs t c = IsOnDay (t / 86_400_000) c × IsTimeOfDay c × (ms_of_day c ≡ t % 86_400_000)

-- constant
-- a year that a moment can have
abbrev pub IsInYears : ℕ → Type 0
IsInYears y = (1980 ≤ y) × (y ≤ 2100)
