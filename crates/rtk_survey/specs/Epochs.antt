-- The epochs of a station in a capture whose date is not known: each is dated near the one before it,
-- and the first as if it were in week 1,024. What lies between two epochs does not depend on that week
-- (this project's rule).
use Rattle.std.specs.Prelude.{ℕ, ◌+◌, ◌*◌, ◌%◌, Bool, true, false, ◌&&◌, ◌||◌, nat_le, nat_lt, List, [], ◌∷◌, Option, None, Some, max, min, if◌then◌else◌}
use Rattle.rtk_message.specs.Fields.{week_ms}
use Rattle.rtk_obs.specs.declared.time.TheConstants.{LAST_MS}
use Rattle.rtk_survey.specs.Telling.{dated}
use Rattle.rtk_survey.specs.declared.span.Span.{Span}

-- formula
-- the first epoch, as if it were in week 1,024
abbrev pub undated : ℕ → ℕ
undated tow = 1024 * week_ms + tow

abbrev pub begun : ℕ → Span
begun tow = record { first = undated tow; last = undated tow; least = undated tow; greatest = undated tow; next_greatest = None; falls = false; is_wide = false }

-- formula
-- an epoch at most a week from the first; one that is further is not followed
abbrev pub is_followed : ℕ → ℕ → Bool
is_followed first t = nat_le t LAST_MS && (nat_le t (first + week_ms) && nat_le first (t + week_ms))

-- the greater of two moments, if there are two
abbrev pub greater_if_any : Option ℕ → ℕ → ℕ
greater_if_any None t = t
greater_if_any (Some known) t = max known t

-- the greatest moment but one, after one more than these
abbrev pub next_greatest : Option ℕ → ℕ → ℕ → Option ℕ
next_greatest known greatest t =
    if nat_lt greatest t then Some greatest else if nat_lt t greatest then Some (greater_if_any known t) else known

-- an epoch more
abbrev pub with_moment : Span → ℕ → Span
with_moment s t = record {
  first = s.first;
  last = t;
  least = min s.least t;
  greatest = max s.greatest t;
  next_greatest = next_greatest s.next_greatest s.greatest t;
  falls = s.falls || nat_lt t s.last;
  is_wide = s.is_wide;
}

-- the time of week of an epoch more
abbrev pub with_time : Span → ℕ → Span
with_time s tow = if is_followed s.first (dated s.last tow) then with_moment s (dated s.last tow) else record s { is_wide = true }

abbrev pub with_time_if_any : Option Span → ℕ → Span
with_time_if_any None tow = begun tow
with_time_if_any (Some s) tow = with_time s tow

-- the epochs with these times of week, newest first
abbrev pub span_of : List ℕ → Option Span
span_of [] = None
span_of (tow ∷ before) = Some (with_time_if_any (span_of before) tow)

-- formula
-- the time of week of the last epoch
abbrev pub last_time_of_week : Span → ℕ
last_time_of_week s = s.last % week_ms
