-- The dates that messages of a station tell more than half a day from the epochs beside them (this project's rule): a
-- message is sent beside an epoch, so one of the two times is wrong, and the week that the message tells may be wrong
-- too. Behind a gap of more than half a day the epoch before it is far, but the one behind it is near.
use Rattle.std.specs.Prelude.{ℕ, ◌-◌, ◌==◌, Bool, ◌||◌, nat_lt, Option, None, Some, if◌then◌else◌}
use Rattle.rtk_survey.specs.Epochs.{last_time_of_week}
use Rattle.rtk_survey.specs.Telling.{moment_of, told_by_utc}
use Rattle.rtk_survey.specs.declared.date_message.DateMessage.{DateMessage}
use Rattle.rtk_survey.specs.declared.date_message.DateMessage.TheVariants.{Utc, Ephemeris, OtherEphemeris}
use Rattle.rtk_survey.specs.declared.date_message.UtcDate.{UtcDate}
use Rattle.rtk_survey.specs.declared.far_date.FarDate.{FarDate}
use Rattle.rtk_survey.specs.declared.span.Span.{Span}

-- constant
-- a date is more than half a day from an epoch; the leap seconds between it and UTC are left out
abbrev pub is_far_from_epoch : UtcDate → ℕ → Bool
is_far_from_epoch d t = nat_lt 43_200_000 (t - moment_of d) || nat_lt 43_200_000 (moment_of d - t)

-- such a date, with the epoch as it dates it, if it counts
abbrev pub far_from_epoch : UtcDate → Option ℕ → Option FarDate
far_from_epoch d None = None
far_from_epoch d (Some t) = if is_far_from_epoch d t then Some (record { date = d; epoch = t }) else None

-- such a date of a message after these epochs of the station, if it is a 1013 or a 1029 of it, by the last of the epochs
abbrev pub far_date : ℕ → ℕ → Span → DateMessage → Option FarDate
far_date now station s (Utc d) = if d.station == station then far_from_epoch d (told_by_utc now d (last_time_of_week s)) else None
far_date now station s (Ephemeris e) = None
far_date now station s (OtherEphemeris w) = None

abbrev pub far_from_both : FarDate → Option FarDate → Option FarDate
far_from_both f None = None
far_from_both f (Some behind) = Some f

-- a date that is far from the epoch before it, if it is far from the one behind it, which has this time of week
abbrev pub far_from_next : ℕ → ℕ → Option FarDate → Option FarDate
far_from_next now tow None = None
far_from_next now tow (Some f) = far_from_both f (far_from_epoch f.date (told_by_utc now f.date tow))

-- the last of such dates
abbrev pub last_far_date : Option FarDate → Option FarDate → Option FarDate
last_far_date known None = known
last_far_date known (Some more) = Some more

-- the first of such dates
abbrev pub first_far_date : Option FarDate → Option FarDate → Option FarDate
first_far_date None more = more
first_far_date (Some known) more = Some known
