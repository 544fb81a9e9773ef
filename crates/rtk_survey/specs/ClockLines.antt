-- The lines of clocks of a station: of each system the offset that most of its clocks have, of those that are not 0
-- (this project's rule).
use Rattle.std.specs.Prelude.{ℕ, zero, suc, ◌+◌, ◌-◌, ◌*◌, ◌/◌, ◌%◌, ◌==◌, Bool, true, false, nat_le, nat_lt, min, List, [], ◌∷◌, ◌++◌, codes, decimal, Option, None, Some, if◌then◌else◌}
use Rattle.std.specs.List.{sum_by}
use Rattle.rtk_message.specs.Fields.{week_ms}
use Rattle.rtk_obs.specs.CivilText.{last_digits}
use Rattle.rtk_obs.specs.LeapSeconds.{leap_start}
use Rattle.rtk_survey.specs.Counting.{shown_count}
use Rattle.rtk_survey.specs.SummaryText.{number_line}
use Rattle.rtk_survey.specs.Telling.{half_week_ms, moment_of}
use Rattle.rtk_survey.specs.declared.clock_chains.ClockOffset.{ClockOffset}
use Rattle.rtk_survey.specs.declared.clock_chains.ClockOffsets.{ClockOffsets}
use Rattle.rtk_survey.specs.declared.date_message.UtcDate.{UtcDate}

-- ---- the offset that is told

-- formula
-- how far an offset is from 0
unfoldable pub from_zero : ℕ → ℕ
from_zero ahead = min ahead (week_ms - ahead)

-- formula
-- an offset is nearer to 0 than another one; of two that are as near the one that is behind
abbrev pub is_nearer_zero : ClockOffset → ClockOffset → Bool
is_nearer_zero a b =
    if nat_lt (from_zero a.ahead_ms) (from_zero b.ahead_ms) then true else
    if nat_lt (from_zero b.ahead_ms) (from_zero a.ahead_ms) then false else nat_lt b.ahead_ms a.ahead_ms

-- formula
-- an offset comes before another one: it is more frequent, or as frequent and nearer to 0
abbrev pub is_told_before : ClockOffset → ClockOffset → Bool
is_told_before a b = if nat_lt b.count a.count then true else if nat_lt a.count b.count then false else is_nearer_zero a b

abbrev pub told_of_two : Option ClockOffset → ClockOffset → Option ClockOffset
told_of_two None o = Some o
told_of_two (Some known) o = if is_told_before o known then Some o else Some known

-- one offset more; 0 is none that is told
abbrev pub told_with_offset : Option ClockOffset → ClockOffset → Option ClockOffset
told_with_offset known o = if o.ahead_ms == 0 then known else told_of_two known o

abbrev pub told_offset_after : Option ClockOffset → List ClockOffset → Option ClockOffset
told_offset_after known [] = known
told_offset_after known (o ∷ os) = told_offset_after (told_with_offset known o) os

-- the offset that is told of these, if one is not 0
abbrev pub told_offset : List ClockOffset → Option ClockOffset
told_offset os = told_offset_after None os

-- ---- GLONASS, whose clocks tell UTC

-- the last of so many rows that has begun, or 0 if none has
abbrev pub last_begun : (ℕ → Bool) → ℕ → ℕ
last_begun begun zero = 0
last_begun begun (suc n) = if begun (suc n) then suc n else last_begun begun n

-- formula
-- the leap seconds of the table at a moment of GPS time
unfoldable pub leap_seconds_by : ℕ → ℕ
leap_seconds_by t = last_begun (λ n. nat_le (leap_start n) t) 18

-- formula
-- by how much a clock that tells UTC is ahead, as one of GPS time with so many leap seconds
unfoldable pub gps_ahead_with : ℕ → ℕ → ℕ
gps_ahead_with n ahead = (ahead + 1000 * n) % week_ms

abbrev pub gps_offset : ℕ → ClockOffset → ClockOffset
gps_offset n o = record { ahead_ms = gps_ahead_with n o.ahead_ms; count = o.count }

abbrev pub told_gps_after : ℕ → Option ClockOffset → List ClockOffset → Option ClockOffset
told_gps_after n known [] = known
told_gps_after n known (o ∷ os) = told_gps_after n (told_with_offset known (gps_offset n o)) os

-- the offset that is told of clocks of GLONASS, with so many leap seconds
abbrev pub told_gps : ℕ → List ClockOffset → Option ClockOffset
told_gps n os = told_gps_after n None os

-- how many clocks these offsets are of
abbrev pub compared_clocks : List ClockOffset → ℕ
compared_clocks os = shown_count (sum_by (λ o. o.count) os)

-- ---- the lines

-- formula
-- seconds with three decimals, as in 14.000
unfoldable pub offset_seconds_text : ℕ → List ℕ
offset_seconds_text ms = decimal (ms / 1000) ++ 46 ∷ last_digits 3 (ms % 1000)

-- formula
-- a plus within half a week, else a hyphen
unfoldable pub offset_sign : ℕ → ℕ
offset_sign ahead = if nat_le ahead half_week_ms then 43 else 45

-- formula
-- an offset, as in +14.000 or -0.001
unfoldable pub offset_text : ℕ → List ℕ
offset_text ahead = offset_sign ahead ∷ offset_seconds_text (from_zero ahead)

-- formula
-- the words, the letter of the system and the offset
unfoldable pub clock_words : ℕ → ℕ → List ℕ
clock_words letter ahead = codes " clock " ++ letter ∷ 32 ∷ offset_text ahead

-- formula
-- an offset, and how many clocks have it of how many
abbrev pub clock_line_of : ℕ → ℕ → Option ClockOffset → List ℕ
clock_line_of letter all None = []
clock_line_of letter all (Some o) = number_line (clock_words letter o.ahead_ms ++ codes " " ++ decimal o.count ++ codes " of ") all

abbrev pub clock_line : ℕ → List ClockOffset → List ℕ
clock_line letter os = clock_line_of letter (compared_clocks os) (told_offset os)

-- the line of GLONASS: the leap seconds are those of the date of the station. Without a date there is none
abbrev pub glonass_line : Option UtcDate → List ClockOffset → List ℕ
glonass_line None os = []
glonass_line (Some d) os = clock_line_of 82 (compared_clocks os) (told_gps (leap_seconds_by (moment_of d)) os)

-- formula
-- the lines of GLONASS, Galileo, BeiDou, QZSS, SBAS and NavIC
unfoldable pub clock_lines : Option UtcDate → ClockOffsets → List ℕ
clock_lines date s =
    glonass_line date s.glonass.items ++ clock_line 69 s.galileo.items ++ clock_line 67 s.beidou.items ++ clock_line 74 s.qzss.items
    ++ clock_line 83 s.sbas.items ++ clock_line 73 s.navic.items
