-- The lines of Doppler that is not in the file (this project's rule).
use Rattle.std.specs.Prelude.{ℕ, Bool, List, [], ◌++◌, flat_map, codes, Option, None, Some, if◌then◌else◌}
use Rattle.std.specs.BTreeMap.{get}
use Rattle.std.specs.List.{sum_by}
use Rattle.std.specs.Ordering.{nat_cmp}
use Rattle.rtk_message.specs.declared.accepted.Accepted.{Accepted}
use Rattle.rtk_message.specs.declared.msm_kind.MsmKind.{MsmKind}
use Rattle.rtk_message.specs.declared.msm_kind.MsmKind.TheVariants.{Msm5, Msm7}
use Rattle.rtk_message.specs.declared.msm_type.MsmType.{MsmType}
use Rattle.rtk_message.specs.declared.system.System.{System}
use Rattle.rtk_message.specs.Accepted.{accepts}
use Rattle.rtk_message.specs.Systems.{number_of_type}
use Rattle.rtk_survey.specs.Contents.{msm_part, messages_of_msm, station_in}
use Rattle.rtk_survey.specs.Counting.{shown_count}
use Rattle.rtk_survey.specs.declared.station.StationSurvey.{StationSurvey}
use Rattle.rtk_survey.specs.declared.survey.CaptureSurvey.{CaptureSurvey}
use Rattle.rtk_systems.specs.MessageLines.{count_line_of}
use Rattle.rtk_systems.specs.SystemMsms.{systems_in_order}
use Rattle.rtk_systems.specs.Values.{is_gps_system}

-- how many messages of an MSM of any system came
abbrev pub typed_in_station : MsmType → StationSurvey → ℕ
typed_in_station m t =
    if is_gps_system m.system then (msm_part t.msm m.kind).messages else messages_of_msm (get nat_cmp t.system_msm (number_of_type m))

abbrev pub typed_of_station : MsmType → Option StationSurvey → ℕ
typed_of_station m None = 0
typed_of_station m (Some t) = typed_in_station m t

-- how many of them captures have of a station
abbrev pub typed_in_captures : List CaptureSurvey → ℕ → MsmType → ℕ
typed_in_captures ss n m = shown_count (sum_by (λ s. typed_of_station m (station_in n s)) ss)

-- formula
-- the Doppler of messages of a number, if they are taken
abbrev pub doppler_line_of : Accepted → ℕ → ℕ → List ℕ
doppler_line_of taken number count = if accepts taken number then count_line_of (codes " not in the file: Doppler of ") number count else []

-- the Doppler of the messages of an MSM
abbrev pub doppler_of_type : Accepted → List CaptureSurvey → ℕ → MsmType → List ℕ
doppler_of_type taken ss station m = doppler_line_of taken (number_of_type m) (typed_in_captures ss station m)

abbrev pub doppler_of_kind : Accepted → List CaptureSurvey → ℕ → System → MsmKind → List ℕ
doppler_of_kind taken ss station system kind = doppler_of_type taken ss station (record { system = system; kind = kind })

-- formula
-- MSM5 and MSM7 have Doppler
-- Source: RTCM 10403.3, DF399 and DF404
abbrev pub doppler_of_system : Accepted → List CaptureSurvey → ℕ → System → List ℕ
doppler_of_system taken ss station system = doppler_of_kind taken ss station system Msm5 ++ doppler_of_kind taken ss station system Msm7

-- of all systems, in the order of a file
abbrev pub doppler_lines : Accepted → List CaptureSurvey → ℕ → List ℕ
doppler_lines taken ss station = flat_map (doppler_of_system taken ss station) systems_in_order

-- formula
-- the same, unless the file shows Doppler shifts
abbrev pub doppler_lines_unless : Bool → Accepted → List CaptureSurvey → ℕ → List ℕ
doppler_lines_unless is_shown taken ss station = if is_shown then [] else doppler_lines taken ss station
