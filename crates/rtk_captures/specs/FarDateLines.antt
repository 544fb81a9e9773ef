-- The lines of captures in which a 1013 or a 1029 of the station tells a date more than half a day from the epochs beside
-- it, or if the capture has none from the messages of GLONASS and BeiDou (this project's rule). Such a message dates the epoch
-- all the same, by the week that it tells.
use Rattle.std.specs.Prelude.{ℕ, List, [], ◌++◌, nat_lt, codes, Option, None, Some, if◌then◌else◌}
use Rattle.rtk_captures.specs.Lists.{line_end, words_and_name}
use Rattle.rtk_captures.specs.SpanLine.{date_message_text}
use Rattle.rtk_captures.specs.StationCaptures.{dates_in}
use Rattle.rtk_captures.specs.TimeText.{time_text}
use Rattle.rtk_obs.specs.declared.time.TheConstants.{LAST_MS}
use Rattle.rtk_survey.specs.FarDates.{first_far_date}
use Rattle.rtk_survey.specs.StationClocks.{clocks_by_station, far_from_clocks}
use Rattle.rtk_survey.specs.Targets.{marks_if_known}
use Rattle.rtk_survey.specs.Telling.{moment_of}
use Rattle.rtk_survey.specs.declared.date_message.DateMessage.TheVariants.{Utc}
use Rattle.rtk_survey.specs.declared.date_message.UtcDate.{UtcDate}
use Rattle.rtk_survey.specs.declared.far_date.FarDate.{FarDate}
use Rattle.rtk_survey.specs.declared.span.Span.{Span}
use Rattle.rtk_survey.specs.declared.survey.CaptureSurvey.{CaptureSurvey}
use Rattle.rtk_survey.specs.declared.target.TargetSurvey.{TargetSurvey}
use Rattle.rtk_survey.specs.declared.tellings.Tellings.{Tellings}

-- formula
-- a date, with the message that tells it and its capture
unfoldable pub far_head : UtcDate → List ℕ → List ℕ
far_head d name = codes " other-date " ++ time_text (moment_of d) ++ date_message_text (Utc d) ++ words_and_name (codes " in ") name

-- formula
-- the epoch that it dates
unfoldable pub far_epoch : ℕ → List ℕ
far_epoch epoch = codes ": it dates the epoch beside it as " ++ time_text epoch ++ line_end

-- both, if the epoch can be written
abbrev pub far_date_line : FarDate → List ℕ → List ℕ
far_date_line f name = if nat_lt LAST_MS f.epoch then [] else far_head f.date name ++ far_epoch f.epoch

abbrev pub far_date_line_if : Option FarDate → List ℕ → List ℕ
far_date_line_if None name = []
far_date_line_if (Some f) name = far_date_line f name

-- formula
-- a message of GLONASS or BeiDou beside a date
unfoldable pub far_neighbour : ℕ → List ℕ
far_neighbour t = codes ": the message beside it is dated " ++ time_text t ++ line_end

-- a date and such a message, if its moment can be written
abbrev pub far_clock_line : FarDate → List ℕ → List ℕ
far_clock_line f name = if nat_lt LAST_MS f.epoch then [] else far_head f.date name ++ far_neighbour f.epoch

abbrev pub far_clock_line_if : Option FarDate → List ℕ → List ℕ
far_clock_line_if None name = []
far_clock_line_if (Some f) name = far_clock_line f name

-- the date that is far from the epochs: also one that no epoch came behind
abbrev pub far_from_epochs : Tellings → Option FarDate
far_from_epochs t = first_far_date t.far t.waiting_far

abbrev pub far_clocks_for : ℕ → Option TargetSurvey → Option FarDate
far_clocks_for n None = None
far_clocks_for n (Some t) = far_from_clocks (marks_if_known t.present n t.dates) (clocks_by_station t.clocks n)

-- the date of the station that is far from the clocks of a capture
abbrev pub far_clocks_in : ℕ → CaptureSurvey → Option FarDate
far_clocks_in n s = far_clocks_for n s.contents.target

-- beside these epochs, or none
abbrev pub far_line_beside : Option Span → Option FarDate → Option FarDate → List ℕ → List ℕ
far_line_beside None epochs clocks name = far_clock_line_if clocks name
far_line_beside (Some s) epochs clocks name = far_date_line_if epochs name

-- the line of a capture: by its epochs, or if it has none by its clocks
abbrev pub far_date_line_in : ℕ → CaptureSurvey → List ℕ → List ℕ
far_date_line_in station s name =
    far_line_beside (dates_in station s).span (far_from_epochs (dates_in station s).told) (far_clocks_in station s) name
