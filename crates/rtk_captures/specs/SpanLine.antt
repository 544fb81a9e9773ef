-- The line that tells the epochs of the station, and by what they are dated (this project's rule).
use Rattle.std.specs.Prelude.{ℕ, ◌+◌, ◌-◌, ◌*◌, nat_lt, List, [], ◌∷◌, ◌++◌, codes, decimal, if◌then◌else◌}
use Rattle.rtk_message.specs.Fields.{week_ms}
use Rattle.rtk_survey.specs.declared.date_message.DateMessage.{DateMessage}
use Rattle.rtk_survey.specs.declared.date_message.DateMessage.TheVariants.{Utc, Ephemeris, OtherEphemeris}
use Rattle.rtk_obs.specs.CivilText.{date_text}
use Rattle.rtk_obs.specs.declared.time.TheConstants.{LAST_MS}
use Rattle.rtk_obs.specs.Reading.{reading_of}
use Rattle.rtk_captures.specs.TimeText.{time_text}
use Rattle.rtk_captures.specs.declared.span_line.DateSource.{DateSource}
use Rattle.rtk_captures.specs.declared.span_line.DateSource.TheVariants.{Words, Station, OtherStation, Ephemerides, OtherEphemerides}
use Rattle.rtk_captures.specs.declared.span_line.DatedSpan.{DatedSpan}

-- formula
-- a 1019 tells the week modulo 1,024, which are these many milliseconds
abbrev pub weeks_ms : ℕ
weeks_ms = 1024 * week_ms

abbrev pub day_text : ℕ → List ℕ
day_text t = date_text (reading_of t)

-- formula
-- the days 1,024 weeks before and after, as far as there are such
unfoldable pub neighbours_text : ℕ → List ℕ
neighbours_text t =
    if nat_lt t weeks_ms then day_text (t + weeks_ms) else
    if nat_lt LAST_MS (t + weeks_ms) then day_text (t - weeks_ms) else
    day_text (t - weeks_ms) ++ codes ", " ++ day_text (t + weeks_ms)

-- formula
-- a message by its number, and its station
abbrev pub number_and_station : ℕ → ℕ → List ℕ
number_and_station number station = codes " by " ++ decimal number ++ codes " of station " ++ decimal station

-- formula
-- the week of a 1019, which stands for others too
abbrev pub week_text : ℕ → List ℕ
week_text t = codes " by 1019 (or " ++ neighbours_text t ++ codes ")"

-- formula
-- by what the first epoch is dated; by the week of a 1019 alone, its neighbours are told; the week of a 1042, 1045 or 1046
-- has none between the first week of GPS and now
abbrev pub source_text : DateSource → ℕ → List ℕ
source_text Words t = codes " by --near"
source_text (Station number) t = codes " by " ++ decimal number
source_text (OtherStation number station) t = number_and_station number station
source_text Ephemerides t = week_text t
source_text (OtherEphemerides number) t = codes " by " ++ decimal number

-- formula
-- by what message a date is told
abbrev pub date_message_text : DateMessage → List ℕ
date_message_text (Utc d) = number_and_station d.number d.station
date_message_text (Ephemeris e) = codes " by 1019"
date_message_text (OtherEphemeris w) = codes " by " ++ decimal w.number

-- formula
-- the first and the last epoch of the station
unfoldable pub span_line : DatedSpan → List ℕ
span_line s = codes " from " ++ time_text s.from ++ codes " until " ++ time_text s.until ++ source_text s.source s.from ++ 10 ∷ []
