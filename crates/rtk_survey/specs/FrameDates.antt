-- What the frames of a capture tell of dates (this project's rule). Lists of frames and of date messages
-- are newest first.
use Rattle.std.specs.Prelude.{ℕ, ◌==◌, Bool, true, false, ◌&&◌, ◌||◌, List, [], ◌∷◌, Option, None, Some, is_some, Result, Ok, Err}
use Rattle.std.specs.List.{filter_map}
use Rattle.rtk_bits.specs.Bits.{bits}
use Rattle.rtk_message.specs.declared.any_message.AnyMessage.{AnyMessage}
use Rattle.rtk_message.specs.declared.any_fault.AnyFault.{AnyFault}
use Rattle.rtk_survey.specs.DateMessages.{date_in}
use Rattle.rtk_survey.specs.Telling.{is_date}
use Rattle.rtk_survey.specs.declared.date_message.DateMessage.{DateMessage}
use Rattle.rtk_survey.specs.declared.date_message.DateMessage.TheVariants.{Utc, Ephemeris, OtherEphemeris}
use Rattle.rtk_survey.specs.declared.date_message.UtcDate.{UtcDate}
use Rattle.rtk_survey.specs.Counting.{count_of}
use Rattle.rtk_survey.specs.ReadFrames.{ReadFrame}
use Rattle.rtk_survey.specs.declared.station_dates.DateCount.{DateCount}
use Rattle.rtk_survey.specs.declared.station_dates.StationDates.{StationDates}

-- a frame tells a date if it is no message that is read, and a 1013, 1029, 1019, 1042, 1045 or 1046
abbrev pub date_of_reading : List ℕ → Result AnyMessage AnyFault → Option DateMessage
date_of_reading payload (Ok m) = None
date_of_reading payload (Err fault) = date_in (bits payload)

abbrev pub date_of_frame : ReadFrame → Option DateMessage
date_of_frame f = date_of_reading f.payload f.reading

-- the date messages among the frames
abbrev pub dates_in : List ReadFrame → List DateMessage
dates_in fs = filter_map date_of_frame fs

-- ---- by station

-- a 1013 or a 1029 of this number and station that tells a date
abbrev pub dates_as : ℕ → ℕ → DateMessage → Bool
dates_as number station (Utc d) = is_date d && ((d.number == number) && (d.station == station))
dates_as number station (Ephemeris e) = false
dates_as number station (OtherEphemeris w) = false

abbrev pub utc_if : Bool → DateMessage → Option UtcDate
utc_if false d = None
utc_if true (Utc d) = Some d
utc_if true (Ephemeris e) = None
utc_if true (OtherEphemeris w) = None

-- the first date, if there is one, else a later one
abbrev pub earlier_or : Option UtcDate → Option UtcDate → Option UtcDate
earlier_or None later = later
earlier_or (Some d) later = Some d

-- the first date that messages of this number tell of this station
abbrev pub first_date : ℕ → ℕ → List DateMessage → Option UtcDate
first_date number station [] = None
first_date number station (d ∷ before) = earlier_or (first_date number station before) (utc_if (dates_as number station d) d)

-- the first date, and how many there are
abbrev pub date_count : ℕ → ℕ → List DateMessage → DateCount
date_count number station ds = record { first = first_date number station ds; count = count_of (dates_as number station) ds }

-- what messages tell of the dates of a station
abbrev pub station_dates : ℕ → List DateMessage → StationDates
station_dates station ds = record { of_1013 = date_count 1013 station ds; of_1029 = date_count 1029 station ds }

-- no message came
abbrev pub no_date_count : DateCount
no_date_count = record { first = None; count = 0 }

abbrev pub no_station_dates : StationDates
no_station_dates = record { of_1013 = no_date_count; of_1029 = no_date_count }

-- some message dates the station
abbrev pub has_date : StationDates → Bool
has_date d = is_some d.of_1013.first || is_some d.of_1029.first

-- the date near which the command of a station converts: the first of its 1013, else of its 1029
abbrev pub proposed_date : StationDates → Option UtcDate
proposed_date d = earlier_or d.of_1013.first d.of_1029.first

-- ---- by week

-- a 1019 of this week modulo 1,024 (DF076)
abbrev pub is_of_week : ℕ → DateMessage → Bool
is_of_week week (Utc d) = false
is_of_week week (Ephemeris e) = e.week == week
is_of_week week (OtherEphemeris w) = false
