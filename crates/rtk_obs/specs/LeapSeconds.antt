-- Leap seconds: how many seconds GPS time is ahead of UTC.
-- Source: IERS, Bulletin C; GPS time and UTC agreed on 1980-01-06
use Rattle.std.specs.Prelude.{ℕ, ◌+◌, ◌-◌, ◌*◌, ◌<◌, ◌≤◌, List, [], ◌∷◌, map, get_or, pos}
use Rattle.jiff_core.specs.Calendar.{day_count}

-- table
-- the UTC days that began after a leap second: years, months and days. The first came after 1 leap
-- second, and each other one after one more
-- Source: IERS, Bulletin C
abbrev pub leap_dates : List (ℕ × ℕ × ℕ)
leap_dates =
    (1981, 7, 1) ∷ (1982, 7, 1) ∷ (1983, 7, 1) ∷ (1985, 7, 1) ∷ (1988, 1, 1) ∷ (1990, 1, 1) ∷
    (1991, 1, 1) ∷ (1992, 7, 1) ∷ (1993, 7, 1) ∷ (1994, 7, 1) ∷ (1996, 1, 1) ∷ (1997, 7, 1) ∷
    (1999, 1, 1) ∷ (2006, 1, 1) ∷ (2009, 1, 1) ∷ (2012, 7, 1) ∷ (2015, 7, 1) ∷ (2017, 1, 1) ∷ []

-- formula
-- the days from 1980-01-06 to a date
abbrev pub gps_day : (ℕ × ℕ × ℕ) → ℕ
gps_day d = day_count (pos d.0) d.1 d.2 - day_count (pos 1980) 1 6

-- formula
-- the GPS time, in ms, from which on there are n leap seconds: 0:00 UTC of the day, and n s, by which GPS
-- time is ahead
abbrev pub leap_start : ℕ → ℕ
leap_start n = 86_400_000 * get_or (map gps_day leap_dates) (n - 1) 0 + 1000 * n

-- n is the last row of the table that has begun, or 0 if none has (this project's rule)
pub record IsLastRow (HasBegun : ℕ → Type 0) (n : ℕ) : Type 0 where
  pub known : n ≤ 18
  pub begun : 1 ≤ n → HasBegun n
  pub last : (k : ℕ) → n < k → k ≤ 18 → ¬ (HasBegun k)

-- there are n leap seconds at a moment of GPS time
abbrev pub IsLeapSecondsAt : ℕ → ℕ → Type 0
IsLeapSecondsAt t n = IsLastRow (λ k. leap_start k ≤ t) n
