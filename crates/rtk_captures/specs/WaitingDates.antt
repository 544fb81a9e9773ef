-- What a capture without an epoch of a station tells of one (this project's rule).
use Rattle.std.specs.Prelude.{ℕ, ◌%◌, ◌==◌, Bool, List, [], ◌∷◌, Option, None, Some, unwrap_or, if◌then◌else◌}
use Rattle.rtk_message.specs.Fields.{week_ms}
use Rattle.rtk_survey.specs.CaptureDates.{no_dates, with_waiting, with_epoch_time}
use Rattle.rtk_survey.specs.Contents.{station_in}
use Rattle.rtk_survey.specs.declared.capture_dates.CaptureDates.{CaptureDates}
use Rattle.rtk_survey.specs.declared.date_message.DateMessage.{DateMessage}
use Rattle.rtk_survey.specs.declared.survey.CaptureSurvey.{CaptureSurvey}
use Rattle.rtk_survey.specs.declared.target.TargetSurvey.{TargetSurvey}
use Rattle.rtk_captures.specs.StationCaptures.{is_heard}

-- messages that wait for the first epoch
abbrev pub all_waiting : CaptureDates → List DateMessage → CaptureDates
all_waiting c [] = c
all_waiting c (d ∷ ds) = all_waiting (with_waiting c d) ds

-- what messages tell, by the present, of an epoch of a station at a time of week that is the only one, and came after them
abbrev pub dates_at : ℕ → ℕ → ℕ → List DateMessage → List DateMessage → CaptureDates
dates_at now station tow ds weeks = with_epoch_time now station (all_waiting (all_waiting no_dates ds) weeks) tow

-- the messages of a capture that wait for an epoch: none does once one came, so these are of a capture without one; no other
-- station is known in it
abbrev pub dates_waiting : ℕ → ℕ → Option TargetSurvey → CaptureDates
dates_waiting n tow None = no_dates
dates_waiting n tow (Some t) =
    if unwrap_or t.dates.station n == n
    then dates_at t.present n tow t.dates.capture.waiting.items t.dates.capture.waiting_weeks.items
    else no_dates

-- a capture that has nothing of the station tells nothing of it
abbrev pub dates_if_heard : Bool → CaptureDates → CaptureDates
dates_if_heard heard d = if heard then d else no_dates

-- formula
-- what a capture without an epoch tells of one at this moment
abbrev pub dates_without_epoch : ℕ → ℕ → CaptureSurvey → CaptureDates
dates_without_epoch n near s = dates_if_heard (is_heard (station_in n s)) (dates_waiting n (near % week_ms) s.contents.target)
