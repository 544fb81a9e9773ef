-- What a person should know of a conversion that is done (this project's rule).
use Rattle.std.specs.Prelude.{ℕ, ◌+◌, ◌==◌, nat_le, Bool, not, ◌&&◌, ◌||◌, length, List, [], ◌∷◌, ◌++◌, Option, None, Some, is_some, slice_get, codes, decimal, flat_map, if◌then◌else◌}
use Rattle.std.specs.Borrow.{Bor}
use Rattle.std.specs.List.{list_any, sum_by}
use Rattle.std.specs.Option.{is_none}
use Rattle.rtk_message.specs.declared.accepted.Accepted.{Accepted}
use Rattle.rtk_message.specs.declared.system.System.TheVariants.{Gps, Sbas}
use Rattle.rtk_obs.specs.declared.any_code.AnyCode.{AnyCode}
use Rattle.rtk_setup.specs.Setup.{SetupView, taken_by, lists_system}
use Rattle.rtk_survey.specs.CaptureDates.{counting}
use Rattle.rtk_survey.specs.Counting.{shown_count}
use Rattle.rtk_survey.specs.Placing.{placed}
use Rattle.rtk_survey.specs.declared.capture_dates.CaptureDates.{CaptureDates}
use Rattle.rtk_survey.specs.declared.equipment.Equipment.{Equipment}
use Rattle.rtk_survey.specs.declared.span.Span.{Span}
use Rattle.rtk_survey.specs.declared.survey.CaptureSurvey.{CaptureSurvey}
use Rattle.rtk_survey.specs.declared.tellings.Tellings.{Tellings}
use Rattle.rtk_survey.specs.declared.tellings.Told.{Told}
use Rattle.rtk_captures.specs.CaptureNames.{capture_name, lines_by}
use Rattle.rtk_systems.specs.ClockOffsets.{told_clock_lines}
use Rattle.rtk_plan.specs.ClockNotes.{all_clock_notes}
use Rattle.rtk_systems.specs.DopplerLines.{doppler_lines_unless}
use Rattle.rtk_plan.specs.FewPhases.{has_few_phases_of}
use Rattle.rtk_plan.specs.LeapLines.{leap_lines}
use Rattle.rtk_plan.specs.LeftOut.{left_out_lines}
use Rattle.rtk_plan.specs.Plan.{taken_messages}
use Rattle.rtk_survey.specs.Surveys.{places_of}
use Rattle.rtk_captures.specs.FarDateLines.{far_date_line_in}
use Rattle.rtk_captures.specs.Lists.{date_line, to_come_line, undated_line, stray_line, capture_line, name_line}
use Rattle.rtk_systems.specs.MessageLines.{obs_1004_line, msm_lines, sbas_line, all_unread}
use Rattle.rtk_captures.specs.Positions.{no_position_line}
use Rattle.rtk_plan.specs.Reported.{late_of}
use Rattle.rtk_plan.specs.SaidCommand.{said_code}
use Rattle.rtk_captures.specs.SpanLine.{span_line}
use Rattle.rtk_captures.specs.StationCaptures.{dates_in, weeks_passed_over, others_passed_over, system_weeks_passed_over, to_come_told}
use Rattle.rtk_captures.specs.WaitingDates.{dates_without_epoch}
use Rattle.rtk_plan.specs.OtherEquipment.{equipment_notes}
use Rattle.rtk_systems.specs.ToldChannels.{told_channel_lines}
use Rattle.rtk_systems.specs.UncheckedSystems.{unchecked_system_lines}
use Rattle.rtk_systems.specs.Values.{is_1012_given}
use Rattle.rtk_systems.specs.declared.values.TakenMessages.{TakenMessages}
use Rattle.rtk_plan.specs.WrittenFile.{written_span, gap_lines}
use Rattle.rtk_plan.specs.declared.known_lines.Known.{Known}
use Rattle.rtk_plan.specs.declared.planning.Plan.{Plan}
use Rattle.rtk_plan.specs.declared.reported.Reported.{Reported}
use Rattle.rtk_captures.specs.declared.span_line.DateSource.{DateSource}
use Rattle.rtk_captures.specs.declared.span_line.DateSource.TheVariants.{Words, Station, OtherStation, Ephemerides, OtherEphemerides}
use Rattle.rtk_captures.specs.declared.station_capture.StationCapture.{StationCapture}
use Rattle.rtk_plan.specs.declared.written_file.Step.{Step}
use Rattle.rtk_plan.specs.declared.written_file.WrittenFile.{WrittenFile}

-- a capture with these epochs tells another first one than a conversion near this moment gives it; as both
-- have one time of week, they are a week or more apart
abbrev pub is_told_otherwise : ℕ → Span → Told → Bool
is_told_otherwise near s t = not (t.first == (placed near (record { told = None; span = s })).first)

-- formula
-- a date that does not count
abbrev pub other_date_line : ℕ → Span → List ℕ → Told → List ℕ
other_date_line near s name t = if is_told_otherwise near s t then codes " other-date" ++ date_line t name else []

-- those of several dates
abbrev pub other_date_lines : ℕ → Span → List ℕ → List Told → List ℕ
other_date_lines near s name ts = flat_map (other_date_line near s name) ts

-- constant
-- a survey keeps 16 first epochs that differ of each kind of message: if it has so many, others may have been told
abbrev pub is_full : List Told → Bool
is_full ts = nat_le 16 (length ts)

-- of the messages that date, and of those whose dates are told beside them
abbrev pub may_have_more : Tellings → Bool
may_have_more t = (is_full (counting t) || is_full t.weeks.items) || (is_full t.others.items || is_full t.system_weeks.items)

-- formula
abbrev pub more_dates_line : List ℕ → Tellings → List ℕ
more_dates_line name t = if may_have_more t then name_line (codes " more-dates in ") name else []

-- the dates that messages told of these epochs and that do not count in a conversion near this moment: those of the
-- messages that date, and beside them those of ephemerides and of other stations; and that there may be others
unfoldable pub other_dates : ℕ → Span → List ℕ → Tellings → List ℕ
other_dates near s name t =
    other_date_lines near s name (counting t) ++ other_date_lines near s name (weeks_passed_over t) ++ other_date_lines near s name (others_passed_over t)
    ++ other_date_lines near s name (system_weeks_passed_over t) ++ more_dates_line name t

abbrev pub other_dates_if_any : ℕ → List ℕ → Tellings → Option Span → List ℕ
other_dates_if_any near name t None = []
other_dates_if_any near name t (Some s) = other_dates near s name t

-- those of a capture, if it has epochs
abbrev pub other_dates_of : ℕ → List ℕ → CaptureDates → List ℕ
other_dates_of near name d = other_dates_if_any near name d.told d.span

-- formula
-- a date that is passed over since it is to come
unfoldable pub date_to_come : Told → List ℕ → List ℕ
date_to_come t name = codes " other-date" ++ to_come_line t name

abbrev pub other_to_come : Option Told → List ℕ → List ℕ
other_to_come None name = []
other_to_come (Some t) name = date_to_come t name

-- those of a capture: of its epochs; or if it has none, of an epoch at this moment; one that is to come; and one far from the
-- epoch beside it
abbrev pub other_dates_at : ℕ → ℕ → CaptureSurvey → List ℕ → List ℕ
other_dates_at station near s name =
    other_dates_of near name (dates_in station s) ++ other_dates_of near name (dates_without_epoch station near s)
    ++ other_to_come (to_come_told station s) name ++ far_date_line_in station s name

-- those of captures with these names
abbrev pub all_other_dates : List (Bor (List ℕ)) → ℕ → ℕ → List CaptureSurvey → List ℕ
all_other_dates names station near ss = lines_by (λ at s. other_dates_at station near s (capture_name names at)) 0 ss

-- a capture has epochs, and tells no date
abbrev pub is_undated : StationCapture → Bool
is_undated c = is_some c.span && is_none c.told

abbrev pub undated_line_if : StationCapture → List ℕ → List ℕ
undated_line_if c name = if is_undated c then undated_line name else []

abbrev pub all_undated : List (Bor (List ℕ)) → List StationCapture → List ℕ
all_undated names cs = lines_by (λ at c. undated_line_if c (capture_name names at)) 0 cs

-- the captures that are dated near the others, unless words date all of them
abbrev pub undated_lines : DateSource → List (Bor (List ℕ)) → List StationCapture → List ℕ
undated_lines Words names cs = []
undated_lines (Station number) names cs = all_undated names cs
undated_lines (OtherStation number station) names cs = all_undated names cs
undated_lines Ephemerides names cs = all_undated names cs
undated_lines (OtherEphemerides number) names cs = all_undated names cs

-- formula
-- a code whose satellites have more than twice as many phases in another one
abbrev pub few_phases_line_if : Bool → AnyCode → List ℕ
few_phases_line_if has_few code =
    if has_few then codes " few-phases " ++ said_code code ++ codes ": its satellites have more than twice as many in another code\n" else []

-- the line of a listed code
unfoldable pub few_phases_line : List CaptureSurvey → ℕ → TakenMessages → AnyCode → List ℕ
few_phases_line ss station taken c = few_phases_line_if (has_few_phases_of ss station taken c) c

abbrev pub few_phases_lines : List CaptureSurvey → ℕ → TakenMessages → List AnyCode → List ℕ
few_phases_lines ss station taken cs = flat_map (few_phases_line ss station taken) cs

-- the captures at these places, which have the stray epoch
abbrev pub stray_lines : List (Bor (List ℕ)) → ℕ → List ℕ → List ℕ
stray_lines names epoch places = flat_map (λ place. stray_line epoch (capture_name names place)) places

-- the systems whose clocks differ from those of their chains, those of which no clock is compared, the captures that tell
-- other leap seconds, and leap seconds that were found
abbrev pub clock_lines_of : List (Bor (List ℕ)) → List CaptureSurvey → Plan → List ℕ
clock_lines_of names ss plan =
    told_clock_lines plan.asked ss plan.setup.station plan.leap_seconds ++ unchecked_system_lines plan.setup.head.listed ss plan.setup.station
    ++ leap_lines names ss plan

-- GLONASS is asked for and a 1012 of the station has a value, but there is no moment near which 1012 are dated right
abbrev pub leaves_long : List CaptureSurvey → Plan → Bool
leaves_long ss plan = plan.asked.glonass && (not plan.has_near_1012 && is_1012_given ss plan.setup.station)

-- the captures that are dated near the others, or whose clocks fall
abbrev pub undated_notes : List (Bor (List ℕ)) → List CaptureSurvey → Plan → List ℕ
undated_notes names ss plan = undated_lines plan.span.source names plan.captures.items ++ all_clock_notes names plan.span.source (leaves_long ss plan) plan.setup ss

-- everything before the line of late messages
unfoldable pub lines_before_late : List (Bor (List ℕ)) → List CaptureSurvey → Plan → Equipment → List ℕ
lines_before_late names ss plan told =
    undated_notes names ss plan
    ++ all_other_dates names plan.setup.station plan.setup.near ss
    ++ clock_lines_of names ss plan
    ++ few_phases_lines ss plan.setup.station (taken_messages plan.setup) plan.setup.head.listed
    ++ told_channel_lines ss plan.setup.station (taken_messages plan.setup) plan.own_channels plan.setup.head.glonass
    ++ equipment_notes names ss plan.setup.station told
    ++ stray_lines names plan.span.until plan.strays.items

-- ---- behind the line of late messages

abbrev pub skipped_line_of : Option StationCapture → List ℕ → List ℕ
skipped_line_of None name = []
skipped_line_of (Some c) name = capture_line (codes " skipped ") name c.look

-- formula
-- a capture that is left out
abbrev pub skipped_line : List (Bor (List ℕ)) → List StationCapture → ℕ → List ℕ
skipped_line names cs place = skipped_line_of (slice_get cs place) (capture_name names place)

abbrev pub skipped_lines : List (Bor (List ℕ)) → List StationCapture → List ℕ → List ℕ
skipped_lines names cs places = flat_map (skipped_line names cs) places

-- formula
-- a capture without an epoch, or one whose epochs fall
abbrev pub epochs_line : Option Span → List ℕ → List ℕ
epochs_line None name = name_line (codes " no-epoch ") name
epochs_line (Some s) name = if s.falls then name_line (codes " time-falls ") name else []

-- formula
-- the bytes of a capture that are in no frame, if there are some: a survey does not know where they lie, so the line counts
-- those before the first frame and behind the last one, as of a stream that was cut anywhere, with those between frames, where
-- a message may be lost
abbrev pub outside_line : ℕ → List ℕ → List ℕ
outside_line outside name = if outside == 0 then [] else codes " outside-frames " ++ decimal outside ++ name_line (codes " in ") name

-- both lines of a capture
abbrev pub capture_notes : StationCapture → List ℕ → List ℕ
capture_notes c name = epochs_line c.span name ++ outside_line c.outside name

abbrev pub epochs_line_of : Option StationCapture → List ℕ → List ℕ
epochs_line_of None name = []
epochs_line_of (Some c) name = capture_notes c name

abbrev pub epochs_line_at : List (Bor (List ℕ)) → List StationCapture → ℕ → List ℕ
epochs_line_at names cs place = epochs_line_of (slice_get cs place) (capture_name names place)

-- those of the captures of a link, and of all links
abbrev pub epochs_lines_of : List (Bor (List ℕ)) → List StationCapture → List ℕ → List ℕ
epochs_lines_of names cs link = flat_map (epochs_line_at names cs) link

abbrev pub epochs_lines : List (Bor (List ℕ)) → List StationCapture → List (List ℕ) → List ℕ
epochs_lines names cs links = flat_map (epochs_lines_of names cs) links

-- the observations of a station that are not taken, if these messages are; the flags say whether GPS, satellites of
-- SBAS in 1004, and Doppler shifts are, and whether 1012 are left out since they can't be dated
unfoldable pub not_taken_by : Accepted → Bool → Bool → Bool → Bool → List CaptureSurvey → ℕ → List ℕ
not_taken_by taken has_gps has_sbas has_doppler is_long ss station =
    obs_1004_line has_gps has_sbas ss station ++ msm_lines taken ss station ++ doppler_lines_unless has_doppler taken ss station ++ sbas_line has_sbas ss station
    ++ all_unread is_long taken ss

-- those that a conversion does not take; 1012 may be left out since they can't be dated
abbrev pub not_taken : List CaptureSurvey → Bool → SetupView → List ℕ
not_taken ss is_long s = not_taken_by (taken_by s) (lists_system s.head.listed Gps) (lists_system s.head.listed Sbas) s.head.doppler is_long ss s.station

unfoldable pub lines_behind_late : List (Bor (List ℕ)) → List CaptureSurvey → Plan → List ℕ
lines_behind_late names ss plan =
    skipped_lines names plan.captures.items plan.skipped.items
    ++ epochs_lines names plan.captures.items (places_of plan.links.items)
    ++ not_taken ss (leaves_long ss plan) plan.setup
    ++ left_out_lines names ss plan

-- ---- the links with a stray epoch

abbrev pub is_one_of : List ℕ → ℕ → Bool
is_one_of places place = list_any (λ other. other == place) places

abbrev pub has_one_of : List ℕ → List ℕ → Bool
has_one_of places link = list_any (is_one_of places) link

-- the links, of which the first has this place, with a capture at one of these places
abbrev pub links_from : ℕ → List ℕ → List (List ℕ) → List ℕ
links_from at strays [] = []
links_from at strays (link ∷ links) =
    if has_one_of strays link then at ∷ links_from (at + 1) strays links else links_from (at + 1) strays links

abbrev pub links_with_strays : List (List ℕ) → List ℕ → List ℕ
links_with_strays links strays = links_from 0 strays links

-- how many late messages a report lists on these links
abbrev pub late_on_links : Reported → List ℕ → ℕ
late_on_links r links = shown_count (sum_by (late_of r) links)

-- formula
-- how many late messages came on a link with a stray epoch, if some did
abbrev pub late_by_stray : ℕ → List ℕ
late_by_stray count = if count == 0 then [] else codes ", " ++ decimal count ++ codes " of them on a link with the stray epoch"

-- formula
-- how many messages were late, if some were, and how many of them on a link with a stray epoch; the window is the
-- number of epochs that are kept open
unfoldable pub late_count_line : ℕ → ℕ → ℕ → List ℕ
late_count_line late by_stray window =
    if late == 0 then [] else
    codes " late " ++ decimal late ++ codes ": observations after " ++ decimal window
    ++ codes " newer epochs, and new positions after " ++ decimal window ++ codes " epochs, are left out"
    ++ late_by_stray by_stray ++ codes "\n"

-- formula
-- how many conflicts there were, if there were some
unfoldable pub conflicts_line : ℕ → List ℕ
conflicts_line conflicts =
    if conflicts == 0 then [] else
    codes " conflict " ++ decimal conflicts ++ codes ": later copies differ from the first, which the file has\n"

-- formula
-- the first and the last epoch of a file, if it has one, and by what they are dated
abbrev pub span_line_if_any : Option Step → DateSource → List ℕ
span_line_if_any None source = []
span_line_if_any (Some s) source = span_line (record { from = s.from; until = s.until; source = source })

-- formula
-- what a file has that was written
unfoldable pub file_lines : DateSource → WrittenFile → ℕ → List ℕ
file_lines source file conflicts =
    span_line_if_any (written_span file) source ++ no_position_line file.has_position ++ gap_lines file ++ conflicts_line conflicts

-- formula
-- what was known before the conversion, and between it the line of late messages
unfoldable pub known_lines : Known → ℕ → ℕ → List ℕ
known_lines k late by_stray = k.first.items ++ late_count_line late by_stray k.window ++ k.last.items
