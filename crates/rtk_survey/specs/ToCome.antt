-- The dates that are passed over since they are still to come (this project's rule).
use Rattle.std.specs.Prelude.{ℕ, ◌+◌, ◌*◌, nat_lt, Option, None, Some, if◌then◌else◌}
use Rattle.rtk_message.specs.Fields.{week_ms}
use Rattle.rtk_survey.specs.CaptureDates.{is_reference, told_first}
use Rattle.rtk_survey.specs.Telling.{week_of, weeks_before, first_week_of, system_weeks_before, is_to_come, moment_of}
use Rattle.rtk_survey.specs.declared.date_message.DateMessage.{DateMessage}
use Rattle.rtk_survey.specs.declared.date_message.DateMessage.TheVariants.{Utc, Ephemeris, OtherEphemeris}
use Rattle.rtk_survey.specs.declared.date_message.EphemerisDate.{EphemerisDate}
use Rattle.rtk_survey.specs.declared.system_message.SystemWeek.{SystemWeek}
use Rattle.rtk_survey.specs.declared.tellings.Told.{Told}

-- formula
-- the reference time of an ephemeris of GPS, if no week up to that of now is the one that it names modulo 1,024 (DF076)
abbrev pub ephemeris_to_come : ℕ → EphemerisDate → Option ℕ
ephemeris_to_come now e =
    if nat_lt (week_of now) (weeks_before now e.week) then Some (week_ms * e.week + 1000 * e.reference_time_s) else None

-- formula
-- the same of an ephemeris of BeiDou or Galileo (DF489, DF289)
abbrev pub system_week_to_come : ℕ → SystemWeek → Option ℕ
system_week_to_come now w =
    if nat_lt (week_of now) (system_weeks_before now w) then Some (week_ms * (w.week + first_week_of w.number) + 1000 * w.reference_time_s) else None

-- the moment that a message names, if it is more than a day after the day of now (1013, 1029), or in a week after that
-- of now
abbrev pub moment_to_come : ℕ → DateMessage → Option ℕ
moment_to_come now (Utc d) = if is_to_come now d then Some (moment_of d) else None
moment_to_come now (Ephemeris e) = ephemeris_to_come now e
moment_to_come now (OtherEphemeris w) = system_week_to_come now w

-- a moment that a message names, if a conversion dates near such a moment
abbrev pub told_if_reference : DateMessage → Option ℕ → Option Told
told_if_reference d None = None
told_if_reference d (Some t) = if is_reference t then Some (told_first d t) else None

abbrev pub told_to_come : ℕ → DateMessage → Option Told
told_to_come now d = told_if_reference d (moment_to_come now d)
