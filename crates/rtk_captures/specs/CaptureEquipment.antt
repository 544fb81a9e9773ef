-- What captures told last of the antenna and the receiver of a station, by time (this project's rule).
use Rattle.std.specs.Prelude.{ℕ, ◌%◌, List, [], ◌∷◌, map, slice_get, Option, None, Some, if◌then◌else◌}
use Rattle.rtk_message.specs.Fields.{week_ms}
use Rattle.rtk_survey.specs.EquipmentHistory.{no_equipment, with_later_antenna, with_later_receiver}
use Rattle.rtk_survey.specs.Targets.{no_times}
use Rattle.rtk_survey.specs.Telling.{dated}
use Rattle.rtk_survey.specs.declared.equipment.Equipment.{Equipment}
use Rattle.rtk_survey.specs.declared.placing.Placed.{Placed}
use Rattle.rtk_survey.specs.declared.span.Span.{Span}
use Rattle.rtk_survey.specs.declared.station.StationSurvey.{StationSurvey}
use Rattle.rtk_survey.specs.declared.survey.CaptureSurvey.{CaptureSurvey}
use Rattle.rtk_survey.specs.declared.target.EquipmentTimes.{EquipmentTimes}
use Rattle.rtk_survey.specs.declared.target.TargetSurvey.{TargetSurvey}
use Rattle.rtk_captures.specs.Joining.{in_order}
use Rattle.rtk_survey.specs.Contents.{station_in}
use Rattle.rtk_captures.specs.StationCaptures.{is_station, dates_in}
use Rattle.rtk_captures.specs.declared.capture_equipment.Part.{Part}
use Rattle.rtk_captures.specs.declared.capture_equipment.Part.TheVariants.{Antenna, Receiver}
use Rattle.rtk_captures.specs.declared.joining.Ordered.{Ordered}

-- ---- when a capture told a part last

abbrev pub times_for : ℕ → Option TargetSurvey → EquipmentTimes
times_for n None = no_times
times_for n (Some t) = if is_station n t.dates.station then t.equipment else no_times

abbrev pub times_in : ℕ → CaptureSurvey → EquipmentTimes
times_in n s = times_for n s.contents.target

abbrev pub time_of_part : Part → EquipmentTimes → Option ℕ
time_of_part Antenna t = t.antenna
time_of_part Receiver t = t.receiver

-- formula
-- the time of week of the epoch before the message, else of the first one
abbrev pub time_or_first : Option ℕ → Span → ℕ
time_or_first None s = s.first % week_ms
time_or_first (Some time) s = time

-- a moment as the reach of a capture that has no other one
abbrev pub only_moment : ℕ → Placed
only_moment t = record { first = t; from = t; until = t }

-- formula
-- the moment near a reference with this time of week, if the capture has an epoch
abbrev pub moment_told : ℕ → Option ℕ → Option Span → Option Placed
moment_told near time None = None
moment_told near time (Some s) = Some (only_moment (dated near (time_or_first time s)))

abbrev pub part_told : Part → ℕ → ℕ → CaptureSurvey → Option Placed
part_told part n near s = moment_told near (time_of_part part (times_in n s)) (dates_in n s).span

-- captures in the order in which they told a part last
abbrev pub order_told : Part → ℕ → ℕ → List CaptureSurvey → List Ordered
order_told part n near ss = in_order (map (part_told part n near) ss)

-- ---- what they told

-- a part as it was told later
abbrev pub with_part : Part → Equipment → Equipment → Equipment
with_part Antenna later e = with_later_antenna later e
with_part Receiver later e = with_later_receiver later e

abbrev pub with_part_if_any : Part → Equipment → Option Equipment → Equipment
with_part_if_any part e None = e
with_part_if_any part e (Some later) = with_part part later e

-- a station that was heard has an entry of what it told, or none
abbrev pub with_station : Part → Equipment → Option StationSurvey → Equipment
with_station part e None = e
with_station part e (Some t) = with_part_if_any part e (slice_get t.equipment.items 0)

abbrev pub with_capture_if_any : Part → ℕ → Equipment → Option CaptureSurvey → Equipment
with_capture_if_any part n e None = e
with_capture_if_any part n e (Some s) = with_station part e (station_in n s)

-- a capture more, by its place
abbrev pub with_capture : Part → List CaptureSurvey → ℕ → Equipment → ℕ → Equipment
with_capture part ss n e place = with_capture_if_any part n e (slice_get ss place)

-- captures more in this order
abbrev pub with_captures : Part → List CaptureSurvey → ℕ → Equipment → List Ordered → Equipment
with_captures part ss n e [] = e
with_captures part ss n e (c ∷ cs) = with_captures part ss n (with_capture part ss n e c.given) cs

abbrev pub with_part_of_all : Part → List CaptureSurvey → ℕ → ℕ → Equipment → Equipment
with_part_of_all part ss n near e = with_captures part ss n e (order_told part n near ss)

-- the antenna and the receiver of a station, each as it was told last; epochs lie near this moment
abbrev pub equipment_in_captures : List CaptureSurvey → ℕ → ℕ → Equipment
equipment_in_captures ss n near = with_part_of_all Receiver ss n near (with_part_of_all Antenna ss n near no_equipment)
