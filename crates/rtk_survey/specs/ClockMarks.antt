-- What dates the clocks of a station that give no epoch (this project's rule): its epochs, or as long as none came the dates
-- that its 1013 and 1029 name.
use Rattle.std.specs.Prelude.{ℕ, min, List, [], ◌∷◌, Option, None, Some, if◌then◌else◌}
use Rattle.rtk_obs.specs.declared.time.TheConstants.{LAST_MS}
use Rattle.rtk_survey.specs.CaptureDates.{is_own, reference_named}
use Rattle.rtk_survey.specs.declared.capture_dates.CaptureDates.{CaptureDates}
use Rattle.rtk_survey.specs.declared.clock_marks.ClockMarks.{ClockMarks}
use Rattle.rtk_survey.specs.declared.date_message.DateMessage.{DateMessage}
use Rattle.rtk_survey.specs.declared.date_message.DateMessage.TheVariants.{Utc, Ephemeris, OtherEphemeris}
use Rattle.rtk_survey.specs.declared.date_message.UtcDate.{UtcDate}
use Rattle.rtk_survey.specs.declared.span.Span.{Span}

-- the first and the last epoch of a station
abbrev pub marks_of_epochs : Span → ClockMarks
marks_of_epochs s = record { first = s.first; last = s.last; date = None }

-- a moment that can be written
abbrev pub opened_moment : ℕ → ℕ
opened_moment t = min t LAST_MS

-- the date of a 1013 or a 1029
abbrev pub utc_of : DateMessage → Option UtcDate
utc_of (Utc d) = Some d
utc_of (Ephemeris e) = None
utc_of (OtherEphemeris w) = None

-- a date more that the station names in a message
abbrev pub marks_with_date : Option ClockMarks → DateMessage → ℕ → ClockMarks
marks_with_date None d t = record { first = opened_moment t; last = opened_moment t; date = utc_of d }
marks_with_date (Some m) d t = record { first = m.first; last = opened_moment t; date = utc_of d }

abbrev pub marks_with_date_if_any : Option ClockMarks → DateMessage → Option ℕ → Option ClockMarks
marks_with_date_if_any marks d None = marks
marks_with_date_if_any marks d (Some t) = Some (marks_with_date marks d t)

-- the moment that a 1013 or a 1029 of the station names, by the present
abbrev pub own_reference : ℕ → ℕ → DateMessage → Option ℕ
own_reference now n d = if is_own n d then reference_named now d else None

abbrev pub marks_after : ℕ → ℕ → Option ClockMarks → List DateMessage → Option ClockMarks
marks_after now n marks [] = marks
marks_after now n marks (d ∷ ds) = marks_after now n (marks_with_date_if_any marks d (own_reference now n d)) ds

-- the first and the last date that the station names in these messages
abbrev pub own_marks : ℕ → ℕ → List DateMessage → Option ClockMarks
own_marks now n ds = marks_after now n None ds

-- the epochs, or before the first of them the dates that wait for it
abbrev pub marks_by : ℕ → ℕ → Option Span → List DateMessage → Option ClockMarks
marks_by now n None ds = own_marks now n ds
marks_by now n (Some s) ds = Some (marks_of_epochs s)

abbrev pub marks_in : ℕ → ℕ → CaptureDates → Option ClockMarks
marks_in now n c = marks_by now n c.span c.waiting.items
