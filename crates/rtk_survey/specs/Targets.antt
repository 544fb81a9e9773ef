-- What a capture tells of the station of a conversion (this project's rule). Lists of frames and messages
-- are newest first.
use Rattle.std.specs.Prelude.{◌≡◌, ℕ, ◌==◌, Bool, true, false, ◌&&◌, ◌||◌, List, [], ◌∷◌, length, Option, None, Some, unwrap_or, is_some, Result, Ok, Err, if◌then◌else◌}
use Rattle.std.specs.List.{list_any}
use Rattle.rtk_bits.specs.Bits.{bits}
use Rattle.rtk_message.specs.declared.any_message.AnyMessage.{AnyMessage}
use Rattle.rtk_message.specs.declared.any_message.AnyMessage.TheVariants as any
use Rattle.rtk_message.specs.declared.any_fault.AnyFault.{AnyFault}
use Rattle.rtk_message.specs.declared.system.System.{System}
use Rattle.rtk_message.specs.declared.system.System.TheVariants.{Gps, Glonass, Galileo, Beidou, Qzss, Sbas, Navic}
use Rattle.rtk_message.specs.AnyDecoded.{station_of, tow_of}
use Rattle.rtk_obs.specs.declared.any_code.AnyCode.{AnyCode}
use Rattle.rtk_obs.specs.AnyCode.{system_of, number_of, all_any_codes}
use Rattle.rtk_survey.specs.BesideGps.{gives_value_beside}
use Rattle.rtk_survey.specs.BitMarks.{is_marked_in}
use Rattle.rtk_survey.specs.CaptureDates.{no_dates, with_epoch_time, with_date, with_waiting}
use Rattle.rtk_survey.specs.ClockMarks.{marks_in}
use Rattle.rtk_survey.specs.ClockSpans.{followed_with_value}
use Rattle.rtk_survey.specs.StationClocks.{no_station_clocks, clocks_by_station, with_time_for_if_any}
use Rattle.rtk_survey.specs.Counting.{shown_count}
use Rattle.rtk_survey.specs.DateMessages.{date_in}
use Rattle.rtk_survey.specs.Epochs.{last_time_of_week}
use Rattle.rtk_survey.specs.EquipmentMessages.{equipment_in}
use Rattle.rtk_survey.specs.Parting as parting
use Rattle.rtk_survey.specs.Parting.{no_parting, parting_with_message}
use Rattle.rtk_survey.specs.Phases.{HasPhases}
use Rattle.rtk_survey.specs.Proposal.{entry_has_value}
use Rattle.rtk_survey.specs.ReadFrames.{ReadFrame, messages_in, messages_from}
use Rattle.rtk_survey.specs.SystemPhases.{HasSystemPhases}
use Rattle.rtk_survey.specs.ToCome.{told_to_come}
use Rattle.rtk_survey.specs.Tracing.{entries_of_message}
use Rattle.rtk_survey.specs.declared.capture_dates.CaptureDates.{CaptureDates}
use Rattle.rtk_survey.specs.declared.date_message.DateMessage.{DateMessage}
use Rattle.rtk_survey.specs.declared.clock_marks.ClockMarks.{ClockMarks}
use Rattle.rtk_survey.specs.declared.station_clocks.StationClocks.{StationClocks}
use Rattle.rtk_survey.specs.declared.dating_systems.DatingSystems.{DatingSystems}
use Rattle.rtk_survey.specs.declared.equipment_message.EquipmentMessage.{EquipmentMessage}
use Rattle.rtk_survey.specs.declared.parting.Parting.{Parting}
use Rattle.rtk_survey.specs.declared.phases.Phases.{Phases}
use Rattle.rtk_survey.specs.declared.span.Span.{Span}
use Rattle.rtk_survey.specs.declared.station.StationSurvey.{StationSurvey}
use Rattle.rtk_survey.specs.declared.target.Target.{Target}
use Rattle.rtk_survey.specs.declared.target.EquipmentTimes.{EquipmentTimes}
use Rattle.rtk_survey.specs.declared.target.TargetDates.{TargetDates}
use Rattle.rtk_survey.specs.declared.target.TargetSurvey.{TargetSurvey}
use Rattle.rtk_survey.specs.declared.tellings.Told.{Told}

-- ---- the systems that date

-- table
-- those whose clock is the GPS time of week (DF004): that of GLONASS needs the leap seconds, and that of BeiDou is wrong
-- by 14 s in receivers before 2013
abbrev pub all_dating : DatingSystems
all_dating = record { gps = true; galileo = true; qzss = true; sbas = true; navic = true }

-- table
-- whether a system is among those that date
abbrev pub has_dating : DatingSystems → System → Bool
has_dating s Gps = s.gps
has_dating s Glonass = false
has_dating s Galileo = s.galileo
has_dating s Beidou = false
has_dating s Qzss = s.qzss
has_dating s Sbas = s.sbas
has_dating s Navic = s.navic

-- table
-- the system of the cells of a message that are beside GPS: in a 1004 they are of SBAS
abbrev pub system_beside : AnyMessage → System
system_beside (any.Message m) = Sbas
system_beside (any.Msm m) = m.system
system_beside (any.Obs1012 m) = Glonass

-- a message has an observation of GPS: one of its cells has a range, a phase or a strength
abbrev pub observes_gps : AnyMessage → Bool
observes_gps m = list_any entry_has_value (entries_of_message m)

-- a message has an observation of a system that dates
abbrev pub observes : DatingSystems → AnyMessage → Bool
observes s m = (observes_gps m && s.gps) || (gives_value_beside m && has_dating s (system_beside m))

-- a code of a system that dates is marked: it has a value
abbrev pub marks_dating : DatingSystems → List ℕ → AnyCode → Bool
marks_dating s words c = has_dating s (system_of c) && is_marked_in words (number_of c)

abbrev pub is_set : Bool → Bool
is_set mark = mark

unfoldable pub has_code_dating : DatingSystems → List ℕ → Bool
has_code_dating s words = list_any (marks_dating s words) all_any_codes

-- a station has an observation of a system that dates
abbrev pub has_dated_observation : DatingSystems → StationSurvey → Bool
has_dated_observation s t =
    (s.gps && list_any is_set t.signals.codes.marks) || has_code_dating s t.system_signals.codes.words

-- ---- the dates

-- the systems that date, the station, if one is known, and what the capture tells of its epochs
abbrev pub dates_with : DatingSystems → Option ℕ → CaptureDates → TargetDates
dates_with systems station capture = record { systems = systems; station = station; capture = capture }

-- an observation at this time of week, of this station: if no station was known, it is that one
abbrev pub with_time_of : ℕ → TargetDates → ℕ → Option ℕ → TargetDates
with_time_of now d station None = d
with_time_of now d station (Some tow) =
    if unwrap_or d.station station == station then dates_with d.systems (Some station) (with_epoch_time now station d.capture tow) else d

-- a message more
abbrev pub with_observation : ℕ → TargetDates → AnyMessage → TargetDates
with_observation now d m = if observes d.systems m then with_time_of now d (station_of m) (tow_of m) else d

-- a date; as long as no station is known, no epoch came, and it waits
abbrev pub with_date_for : ℕ → Option ℕ → CaptureDates → DateMessage → CaptureDates
with_date_for now None c m = with_waiting c m
with_date_for now (Some station) c m = with_date now station c m

abbrev pub with_date_if_any : ℕ → TargetDates → Option DateMessage → TargetDates
with_date_if_any now d None = d
with_date_if_any now d (Some m) = dates_with d.systems d.station (with_date_for now d.station d.capture m)

abbrev pub with_reading : ℕ → TargetDates → List ℕ → Result AnyMessage AnyFault → TargetDates
with_reading now d payload (Ok m) = with_observation now d m
with_reading now d payload (Err fault) = with_date_if_any now d (date_in (bits payload))

-- what frames tell, by the present, after what came before them
abbrev pub dates_after : ℕ → TargetDates → List ReadFrame → TargetDates
dates_after now d [] = d
dates_after now d (f ∷ before) = with_reading now (dates_after now d before) f.payload f.reading

-- what the frames of a capture tell, for this station, or for none that is named
abbrev pub dates_of : Target → List ReadFrame → TargetDates
dates_of q fs = dates_after q.present (dates_with q.systems q.station no_dates) fs

-- ---- the phases

abbrev pub station_at : Option ℕ → ℕ → Option ℕ → Option ℕ
station_at known station None = known
station_at known station (Some tow) = Some (unwrap_or known station)

-- the station that is known after a message: the first with an observation of a system that dates, if none was known
abbrev pub station_after : DatingSystems → Option ℕ → AnyMessage → Option ℕ
station_after s known m = if observes s m then station_at known (station_of m) (tow_of m) else known

-- the phases of the station that is known; as long as none is, no station has one
abbrev pub HasTargetPhases : Phases → Option ℕ → List AnyMessage → Type 0
HasTargetPhases p None ms = (n : ℕ) → HasPhases p (messages_from n ms)
HasTargetPhases p (Some station) ms = HasPhases p (messages_from station ms)

-- ---- when an antenna and a receiver were told last

abbrev pub no_times : EquipmentTimes
no_times = record { antenna = None; receiver = None }

-- the time of week of the last of these epochs, if they are of the station
abbrev pub time_of_last : Bool → Option Span → Option ℕ
time_of_last is_own None = None
time_of_last is_own (Some s) = if is_own then Some (last_time_of_week s) else None

-- the time of week of a station's last epoch, if it is the station that is known
abbrev pub time_at : TargetDates → ℕ → Option ℕ
time_at d station = time_of_last (unwrap_or d.station station == station) d.capture.span

-- a message at this time, which tells an antenna, and a receiver or none
abbrev pub with_message_at : ℕ → Bool → EquipmentTimes → EquipmentTimes
with_message_at tow has_receiver t = record { antenna = Some tow; receiver = if has_receiver then Some tow else t.receiver }

abbrev pub with_message_after : Option ℕ → Bool → EquipmentTimes → EquipmentTimes
with_message_after None has_receiver t = t
with_message_after (Some tow) has_receiver t = with_message_at tow has_receiver t

abbrev pub with_equipment_if_any : TargetDates → EquipmentTimes → Option EquipmentMessage → EquipmentTimes
with_equipment_if_any d t None = t
with_equipment_if_any d t (Some m) = with_message_after (time_at d m.station) (is_some m.receiver) t

abbrev pub times_with_reading : TargetDates → EquipmentTimes → List ℕ → Result AnyMessage AnyFault → EquipmentTimes
times_with_reading d t payload (Ok m) = t
times_with_reading d t payload (Err fault) = with_equipment_if_any d t (equipment_in payload)

-- what frames tell
abbrev pub equipment_times_of : Target → List ReadFrame → EquipmentTimes
equipment_times_of q [] = no_times
equipment_times_of q (f ∷ before) = times_with_reading (dates_of q before) (equipment_times_of q before) f.payload f.reading

-- ---- where a second date begins

abbrev pub parting_with_reading : ℕ → TargetDates → ℕ → Parting → Result AnyMessage AnyFault → List ℕ → Parting
parting_with_reading now d frame p (Ok m) payload =
    parting_with_message d.station m d.capture.span (with_observation now d m).capture.span frame p
parting_with_reading now d frame p (Err fault) payload = parting.parting_with_date now d.station d.capture (date_in (bits payload)) frame p

-- what frames tell
abbrev pub parting_of : Target → List ReadFrame → Parting
parting_of q [] = no_parting
parting_of q (f ∷ before) =
    parting_with_reading q.present (dates_of q before) (shown_count (length before)) (parting_of q before) f.reading f.payload

-- ---- the clocks that give no epoch

-- the epochs of a station, or before the first of them the dates that it names, if no other station is known
abbrev pub marks_if_known : ℕ → ℕ → TargetDates → Option ClockMarks
marks_if_known now n d = if unwrap_or d.station n == n then marks_in now n d.capture else None

abbrev pub clocks_with_reading : ℕ → ℕ → TargetDates → StationClocks → Result AnyMessage AnyFault → StationClocks
clocks_with_reading now n d s (Ok m) = with_time_for_if_any n (station_of m) (marks_if_known now (station_of m) d) (followed_with_value m) s
clocks_with_reading now n d s (Err fault) = s

-- how far the clocks of GLONASS and BeiDou of a station go in these frames
abbrev pub clocks_in : Target → List ReadFrame → ℕ → StationClocks
clocks_in q [] n = no_station_clocks
clocks_in q (f ∷ before) n = clocks_with_reading q.present n (dates_of q before) (clocks_in q before n) f.reading

-- ---- a date that is to come

abbrev pub first_to_come : ℕ → Option Told → Option DateMessage → Option Told
first_to_come now (Some t) m = Some t
first_to_come now None None = None
first_to_come now None (Some d) = told_to_come now d

abbrev pub to_come_with_reading : ℕ → Option Told → Result AnyMessage AnyFault → List ℕ → Option Told
to_come_with_reading now known (Ok m) payload = known
to_come_with_reading now known (Err fault) payload = first_to_come now known (date_in (bits payload))

-- the first message, of any station, whose date is to come
abbrev pub to_come_of : ℕ → List ReadFrame → Option Told
to_come_of now [] = None
to_come_of now (f ∷ before) = to_come_with_reading now (to_come_of now before) f.reading f.payload

-- ---- all of it

pub record IsTargetOf (q : Target) (fs : List ReadFrame) (t : TargetSurvey) : Type 0 where
  pub present : t.present ≡ q.present
  pub dates : t.dates ≡ dates_of q fs
  -- of GPS, if it is among the systems that date
  pub phases : t.dates.systems.gps ≡ true → HasTargetPhases t.phases t.dates.station (messages_in fs)
  pub equipment : t.equipment ≡ equipment_times_of q fs
  pub parting : t.parting ≡ parting_of q fs
  pub to_come : t.to_come ≡ to_come_of q.present fs
  pub clocks : (n : ℕ) → clocks_by_station t.clocks n ≡ clocks_in q fs n
  pub system_phases : HasSystemPhases q.station (messages_in fs) t.system_phases

-- what a capture with these frames tells of the station of a conversion, if it is asked for
abbrev pub IsAnswer : Option Target → List ReadFrame → Option TargetSurvey → Type 0
IsAnswer None fs answer = answer ≡ None
IsAnswer (Some q) fs None = ⊥
IsAnswer (Some q) fs (Some t) = IsTargetOf q fs t
