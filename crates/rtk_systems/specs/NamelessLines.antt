-- The lines of values that no file can have, since their satellite or their signal has no name in RINEX (this project's rule).
use Rattle.std.specs.Prelude.{ℕ, ◌+◌, Bool, List, [], flat_map, codes, Option, None, Some, if◌then◌else◌}
use Rattle.std.specs.List.{sum_by}
use Rattle.rtk_message.specs.declared.msm_type.MsmType.{MsmType}
use Rattle.rtk_message.specs.declared.system.System.{System}
use Rattle.rtk_message.specs.declared.system.System.TheVariants.{Gps, Glonass, Galileo, Beidou, Qzss, Sbas, Navic}
use Rattle.rtk_message.specs.Systems.{number_of_type}
use Rattle.rtk_obs.specs.declared.any_code.AnyCode.{AnyCode}
use Rattle.rtk_setup.specs.Setup.{kind_of, lists_system}
use Rattle.rtk_survey.specs.Contents.{count_at, station_in}
use Rattle.rtk_survey.specs.Counting.{shown_count}
use Rattle.rtk_survey.specs.declared.station.StationSurvey.{StationSurvey}
use Rattle.rtk_survey.specs.declared.survey.CaptureSurvey.{CaptureSurvey}
use Rattle.rtk_systems.specs.MessageLines.{ended_count_line}
use Rattle.rtk_systems.specs.SystemMsms.{systems_in_order}
use Rattle.rtk_systems.specs.declared.values.TakenMessages.{TakenMessages}

-- how many 1012 have cells without a name, if 1012 are taken
abbrev pub nameless_1012 : TakenMessages → StationSurvey → ℕ
nameless_1012 taken t = if taken.obs1012 then count_at t.nameless 1012 else 0

-- how many 1004 have cells without a name, if no code of GPS is listed
abbrev pub nameless_1004_without : Bool → StationSurvey → ℕ
nameless_1004_without has_gps t = if has_gps then 0 else count_at t.nameless 1004

-- table
-- the messages with observations of a system that are no MSM: 1004, whose unknown satellites count to GPS, or to SBAS if no code
-- of GPS is listed, and 1012
abbrev pub nameless_beside_msm : System → Bool → TakenMessages → StationSurvey → ℕ
nameless_beside_msm Gps has_gps taken t = count_at t.nameless 1004
nameless_beside_msm Glonass has_gps taken t = nameless_1012 taken t
nameless_beside_msm Galileo has_gps taken t = 0
nameless_beside_msm Beidou has_gps taken t = 0
nameless_beside_msm Qzss has_gps taken t = 0
nameless_beside_msm Sbas has_gps taken t = nameless_1004_without has_gps t
nameless_beside_msm Navic has_gps taken t = 0

-- how many MSM of a type have cells without a name
abbrev pub nameless_typed : MsmType → StationSurvey → ℕ
nameless_typed m t = count_at t.nameless (number_of_type m)

-- the same of all messages of a system that are taken
abbrev pub nameless_in_station : System → Bool → TakenMessages → StationSurvey → ℕ
nameless_in_station system has_gps taken t =
    shown_count (nameless_typed (record { system = system; kind = kind_of taken.kinds system }) t + nameless_beside_msm system has_gps taken t)

abbrev pub nameless_of_station : System → Bool → TakenMessages → Option StationSurvey → ℕ
nameless_of_station system has_gps taken None = 0
nameless_of_station system has_gps taken (Some t) = nameless_in_station system has_gps taken t

-- how many such messages captures have of a station
abbrev pub nameless_in_captures : List CaptureSurvey → ℕ → Bool → TakenMessages → System → ℕ
nameless_in_captures ss n has_gps taken system = shown_count (sum_by (λ s. nameless_of_station system has_gps taken (station_in n s)) ss)

-- table
abbrev pub nameless_words : System → List ℕ
nameless_words Gps = codes " without-name G "
nameless_words Glonass = codes " without-name R "
nameless_words Galileo = codes " without-name E "
nameless_words Beidou = codes " without-name C "
nameless_words Qzss = codes " without-name J "
nameless_words Sbas = codes " without-name S "
nameless_words Navic = codes " without-name I "

-- formula
-- the line of a system, if it is converted
abbrev pub nameless_line : List AnyCode → List CaptureSurvey → ℕ → TakenMessages → System → List ℕ
nameless_line listed ss n taken system =
    if lists_system listed system then ended_count_line (nameless_words system) (nameless_in_captures ss n (lists_system listed Gps) taken system) (codes "\n") else []

-- those of all systems, in the order of a file
abbrev pub nameless_lines : List AnyCode → List CaptureSurvey → ℕ → TakenMessages → List ℕ
nameless_lines listed ss n taken = flat_map (nameless_line listed ss n taken) systems_in_order
