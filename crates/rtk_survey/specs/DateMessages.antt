-- The messages that tell a date, by the places of their fields (RTCM 10403.3): a 1013 and a 1029 tell
-- a day and a second of the day (UTC), a 1019 the week and the reference time of an ephemeris of GPS, a
-- 1042 those of BeiDou, a 1045 and a 1046 those of Galileo. The first bit of a payload has the place 0.
use Rattle.std.specs.Prelude.{ℕ, ◌+◌, ◌*◌, ◌==◌, Bool, List, length, take, drop, Option, None, Some, nat_lt, if◌then◌else◌}
use Rattle.rtk_bits.specs.Bits.{unsigned}
use Rattle.rtk_survey.specs.declared.date_message.DateMessage.{DateMessage}
use Rattle.rtk_survey.specs.declared.date_message.DateMessage.TheVariants.{Utc, Ephemeris, OtherEphemeris}
use Rattle.rtk_survey.specs.declared.date_message.EphemerisDate.{EphemerisDate}
use Rattle.rtk_survey.specs.declared.date_message.UtcDate.{UtcDate}
use Rattle.rtk_survey.specs.declared.system_message.SystemWeek.{SystemWeek}

-- formula
-- the unsigned number of `width` bits from a place on
abbrev pub unsigned_at : ℕ → ℕ → List Bool → ℕ
unsigned_at place width bs = unsigned (take width (drop place bs))

-- formula
-- what a 1013 or a 1029 tells: DF003, DF051, DF052
abbrev pub utc_at : ℕ → List Bool → UtcDate
utc_at number bs = record { number = number; station = unsigned_at 12 12 bs; day = unsigned_at 24 16 bs; second = unsigned_at 40 17 bs }

-- formula
-- a 1013 has 70 bits, and 29 for each message that it announces (DF053)
abbrev pub size_of_1013 : List Bool → ℕ
size_of_1013 bs = 70 + 29 * unsigned_at 57 5 bs

-- formula
-- a 1029 has 72 bits, and a byte for each code unit of its text (DF139)
abbrev pub size_of_1029 : List Bool → ℕ
size_of_1029 bs = 72 + 8 * unsigned_at 64 8 bs

-- formula
-- what a 1019 tells: DF009, DF076, DF093, whose unit is 16 s
abbrev pub ephemeris_at : List Bool → EphemerisDate
ephemeris_at bs = record { satellite = unsigned_at 12 6 bs; week = unsigned_at 18 10 bs; reference_time_s = 16 * unsigned_at 288 16 bs }

-- formula
-- what a 1042 tells: DF488, DF489 and DF505, whose unit is 8 s
abbrev pub beidou_week_at : List Bool → SystemWeek
beidou_week_at bs =
    record { number = 1042; satellite = unsigned_at 12 6 bs; week = unsigned_at 18 13 bs; reference_time_s = 8 * unsigned_at 299 17 bs }

-- formula
-- what a 1045 or a 1046 tells: DF252, DF289 and DF304, whose unit is 60 s
abbrev pub galileo_week_at : ℕ → List Bool → SystemWeek
galileo_week_at number bs =
    record { number = number; satellite = unsigned_at 12 6 bs; week = unsigned_at 18 12 bs; reference_time_s = 60 * unsigned_at 294 14 bs }

-- a message that is cut short tells nothing
abbrev pub if_whole : ℕ → List Bool → DateMessage → Option DateMessage
if_whole size bs date = if nat_lt (length bs) size then None else Some date

-- formula
-- the message of this number that the bits begin with, if it tells a date
abbrev pub date_numbered : ℕ → List Bool → Option DateMessage
date_numbered number bs =
    if number == 1013 then if_whole (size_of_1013 bs) bs (Utc (utc_at 1013 bs)) else
    if number == 1029 then if_whole (size_of_1029 bs) bs (Utc (utc_at 1029 bs)) else
    if number == 1019 then if_whole 488 bs (Ephemeris (ephemeris_at bs)) else
    if number == 1042 then if_whole 511 bs (OtherEphemeris (beidou_week_at bs)) else
    if number == 1045 then if_whole 496 bs (OtherEphemeris (galileo_week_at 1045 bs)) else
    if number == 1046 then if_whole 504 bs (OtherEphemeris (galileo_week_at 1046 bs)) else None

-- the message that tells a date, if the bits begin with one; its number is DF002
abbrev pub date_in : List Bool → Option DateMessage
date_in bs = if nat_lt (length bs) 12 then None else date_numbered (unsigned_at 0 12 bs) bs
