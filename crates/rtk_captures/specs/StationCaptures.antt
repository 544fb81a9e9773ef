-- What a capture tells of a station, by its survey (this project's rule).
use Rattle.std.specs.Prelude.{ℕ, ◌+◌, ◌-◌, ◌==◌, Bool, false, ◌&&◌, ◌||◌, is_some, min, List, [], ◌∷◌, length, Option, None, Some, unwrap_or, if◌then◌else◌}
use Rattle.rtk_survey.specs.Contents.{station_in}
use Rattle.rtk_survey.specs.CaptureDates.{no_dates, do_system_weeks_decide, counting, is_own, own_moment_of}
use Rattle.rtk_survey.specs.Parting.{parted_frame}
use Rattle.rtk_survey.specs.Targets.{all_dating, has_dated_observation}
use Rattle.rtk_survey.specs.declared.capture_dates.CaptureDates.{CaptureDates}
use Rattle.rtk_survey.specs.declared.dating_systems.DatingSystems.{DatingSystems}
use Rattle.rtk_survey.specs.declared.reference_point.ReferencePoint.{ReferencePoint}
use Rattle.rtk_survey.specs.declared.station.StationSurvey.{StationSurvey}
use Rattle.rtk_survey.specs.declared.survey.CaptureSurvey.{CaptureSurvey}
use Rattle.rtk_survey.specs.declared.target.TargetSurvey.{TargetSurvey}
use Rattle.rtk_survey.specs.declared.tellings.Tellings.{Tellings}
use Rattle.rtk_survey.specs.declared.tellings.Told.{Told}
use Rattle.rtk_captures.specs.declared.station_capture.StationCapture.{StationCapture}

-- ---- a station that was heard

-- a message of the station came: with observations or a position, or one that tells a date, an antenna or a
-- receiver; only such a station has a survey
abbrev pub is_heard : Option StationSurvey → Bool
is_heard t = is_some t

-- its first reference point
abbrev pub point_of : Option StationSurvey → Option ReferencePoint
point_of None = None
point_of (Some t) = t.reference_point

-- the first one that is far from it
abbrev pub far_point_of : Option StationSurvey → Option ReferencePoint
far_point_of None = None
far_point_of (Some t) = t.far_point

-- one of its 1005 or 1006 has another one than the first that has one
abbrev pub tells_other_point : Option StationSurvey → Bool
tells_other_point None = false
tells_other_point (Some t) = t.has_other_point

-- the systems that date a capture: those that it was surveyed for
abbrev pub systems_for : Option TargetSurvey → DatingSystems
systems_for None = all_dating
systems_for (Some t) = t.dates.systems

-- some code of these systems has a value
abbrev pub has_observation : DatingSystems → Option StationSurvey → Bool
has_observation systems None = false
has_observation systems (Some t) = has_dated_observation systems t

-- the same of the systems that date the capture
abbrev pub is_observed_in : ℕ → CaptureSurvey → Bool
is_observed_in n s = has_observation (systems_for s.contents.target) (station_in n s)

-- formula
-- how many epochs the observation messages of the station have: one more than their time changes; the count
-- stays at the greatest value of a u64
abbrev pub epochs_heard : Option StationSurvey → ℕ
epochs_heard None = 0
epochs_heard (Some t) = if is_some t.times.first then min (t.times.changes + 1) 18_446_744_073_709_551_615 else 0

-- ---- its epochs, if the capture was surveyed for it

abbrev pub is_station : ℕ → Option ℕ → Bool
is_station n None = false
is_station n (Some other) = other == n

abbrev pub dates_for : ℕ → Option TargetSurvey → CaptureDates
dates_for n None = no_dates
dates_for n (Some t) = if is_station n t.dates.station then t.dates.capture else no_dates

-- what the capture tells of the epochs of the station
abbrev pub dates_in : ℕ → CaptureSurvey → CaptureDates
dates_in n s = dates_for n s.contents.target

-- the first epochs that messages tell and that count, each that differs
abbrev pub told_in : ℕ → CaptureSurvey → List Told
told_in n s = counting (dates_in n s).told

-- the first epochs that ephemerides tell, if messages of the station tell some, which count
abbrev pub beside_own : List Told → List Told → List Told
beside_own [] weeks = []
beside_own (x ∷ xs) weeks = weeks

-- the first epochs that other stations tell, if messages of the station or ephemerides tell some, which count
abbrev pub beside_others : List Told → List Told → List Told → List Told
beside_others [] [] others = []
beside_others [] (x ∷ xs) others = others
beside_others (x ∷ xs) weeks others = others

-- the first epochs that ephemerides of GPS, and those that other stations tell and that do not count; ephemerides of other
-- systems may tell that the week of GPS is an earlier one
abbrev pub weeks_passed_over : Tellings → List Told
weeks_passed_over t = if do_system_weeks_decide t then t.weeks.items else beside_own t.own.items t.weeks.items

abbrev pub others_passed_over : Tellings → List Told
others_passed_over t = beside_others t.own.items t.weeks.items t.others.items

-- the first epochs that ephemerides of other systems tell count: no other message tells one, or they tell that the week of GPS
-- is an earlier one
abbrev pub do_system_weeks_count : Tellings → Bool
do_system_weeks_count t =
    (length t.own.items == 0) && (do_system_weeks_decide t || ((length t.weeks.items == 0) && (length t.others.items == 0)))

-- those that do not count
abbrev pub system_weeks_passed_over : Tellings → List Told
system_weeks_passed_over t = if do_system_weeks_count t then [] else t.system_weeks.items

abbrev pub first_told : List Told → Option Told
first_told [] = None
first_told (t ∷ ts) = Some t

-- the moment that a capture without an epoch names, if no other station is known in it
abbrev pub moment_for : ℕ → Option TargetSurvey → Option Told
moment_for n None = None
moment_for n (Some t) = if unwrap_or t.dates.station n == n then own_moment_of t.present n t.dates.capture else None

abbrev pub moment_in : ℕ → CaptureSurvey → Option Told
moment_in n s = moment_for n s.contents.target

-- a capture that has nothing of the station names no moment
abbrev pub moment_if_heard : Bool → Option Told → Option Told
moment_if_heard heard moment = if heard then moment else None

-- a 1013 or a 1029 of the station names this moment
abbrev pub is_named_by_own : ℕ → Option Told → Bool
is_named_by_own n None = false
is_named_by_own n (Some t) = is_own n t.message

-- how many frames come before the place at which a second date of the station begins
abbrev pub parting_for : ℕ → Option TargetSurvey → Option ℕ
parting_for n None = None
parting_for n (Some t) = if is_station n t.dates.station then parted_frame t.parting else None

abbrev pub parting_in : ℕ → CaptureSurvey → Option ℕ
parting_in n s = parting_for n s.contents.target

-- the first date that is passed over since it is to come
abbrev pub to_come_for : Option TargetSurvey → Option Told
to_come_for None = None
to_come_for (Some t) = t.to_come

abbrev pub to_come_in : CaptureSurvey → Option Told
to_come_in s = to_come_for s.contents.target

abbrev pub to_come_if : Bool → Option Told → Option Told
to_come_if heard told = if heard then told else None

-- the same of a capture that has something of the station
abbrev pub to_come_told : ℕ → CaptureSurvey → Option Told
to_come_told n s = to_come_if (is_heard (station_in n s)) (to_come_in s)

-- ---- all of it

abbrev pub capture_of : ℕ → CaptureSurvey → StationCapture
capture_of n s = record {
  look = s.look;
  is_heard = is_heard (station_in n s);
  point = point_of (station_in n s);
  far_point = far_point_of (station_in n s);
  span = (dates_in n s).span;
  told = first_told (told_in n s);
  dates = length (told_in n s);
  moment = moment_if_heard (is_heard (station_in n s)) (moment_in n s);
  is_moment_of_station = is_named_by_own n (moment_if_heard (is_heard (station_in n s)) (moment_in n s));
  parting = parting_in n s;
  outside = s.bytes - s.contents.framed;
  has_other_point = tells_other_point (station_in n s);
}
