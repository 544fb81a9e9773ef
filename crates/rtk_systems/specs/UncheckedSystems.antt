-- The systems whose clocks no chain compares with that of another system (this project's rule).
use Rattle.std.specs.Prelude.{ℕ, ◌==◌, Bool, true, false, not, ◌&&◌, ◌||◌, nat_lt, is_some, List, [], ◌∷◌, ◌++◌, flat_map, codes, Option, None, Some, if◌then◌else◌}
use Rattle.std.specs.BTreeMap.{get}
use Rattle.std.specs.List.{list_any}
use Rattle.std.specs.Ordering.{nat_cmp}
use Rattle.rtk_message.specs.declared.msm_kind.MsmKind.{MsmKind}
use Rattle.rtk_message.specs.declared.msm_kind.MsmKind.TheVariants.{Msm4, Msm5, Msm6, Msm7}
use Rattle.rtk_message.specs.declared.system.System.{System}
use Rattle.rtk_message.specs.declared.system.System.TheVariants.{Gps, Glonass, Galileo, Beidou, Qzss, Sbas, Navic}
use Rattle.rtk_message.specs.Systems.{number_of_type}
use Rattle.rtk_obs.specs.SatelliteIndex.{letter_of}
use Rattle.rtk_obs.specs.declared.any_code.AnyCode.{AnyCode}
use Rattle.rtk_setup.specs.Setup.{lists_system}
use Rattle.rtk_survey.specs.declared.station.StationSurvey.{StationSurvey}
use Rattle.rtk_survey.specs.declared.survey.CaptureSurvey.{CaptureSurvey}
use Rattle.rtk_systems.specs.ClockOffsets.{clocks_compared}
use Rattle.rtk_survey.specs.Contents.{station_in}
use Rattle.rtk_systems.specs.SystemMsms.{systems_in_order}
use Rattle.rtk_systems.specs.Values.{is_gps_system, is_glonass_system}

-- ---- the systems that a station sends

-- an MSM of a system and a kind came
abbrev pub has_msm : System → StationSurvey → MsmKind → Bool
has_msm system t kind = is_some (get nat_cmp t.system_msm (number_of_type (record { system = system; kind = kind })))

-- table
abbrev pub kinds_in_order : List MsmKind
kinds_in_order = Msm4 ∷ Msm5 ∷ Msm6 ∷ Msm7 ∷ []

-- a 1012 came, which has the clock of GLONASS
abbrev pub has_1012 : StationSurvey → Bool
has_1012 t = is_some (get nat_cmp t.system_msm 1012)

abbrev pub sends_beside : System → StationSurvey → Bool
sends_beside system t = list_any (has_msm system t) kinds_in_order || (is_glonass_system system && has_1012 t)

-- table
-- a message with the clock of GPS came: a 1004 or an MSM
abbrev pub has_gps_messages : StationSurvey → Bool
has_gps_messages t =
    nat_lt 0 t.counts.obs_1004
    || (nat_lt 0 t.msm.msm4.messages || (nat_lt 0 t.msm.msm5.messages || (nat_lt 0 t.msm.msm6.messages || nat_lt 0 t.msm.msm7.messages)))

-- a message with the clock of a system came
abbrev pub sends_system : System → StationSurvey → Bool
sends_system system t = if is_gps_system system then has_gps_messages t else sends_beside system t

abbrev pub station_sends : System → Option StationSurvey → Bool
station_sends system None = false
station_sends system (Some t) = sends_system system t

abbrev pub sends_in_capture : ℕ → System → CaptureSurvey → Bool
sends_in_capture n system s = station_sends system (station_in n s)

abbrev pub is_system_sent : List CaptureSurvey → ℕ → System → Bool
is_system_sent ss n system = list_any (sends_in_capture n system) ss

-- ---- the system that times the chains

-- table
-- the clocks of BeiDou and GLONASS time no chain
abbrev pub times_chains : System → Bool
times_chains Gps = true
times_chains Glonass = false
times_chains Galileo = true
times_chains Beidou = false
times_chains Qzss = true
times_chains Sbas = true
times_chains Navic = true

-- table
-- the systems that time chains before this one does
abbrev pub timing_before : System → List System
timing_before Gps = []
timing_before Glonass = []
timing_before Galileo = Gps ∷ []
timing_before Beidou = []
timing_before Qzss = Gps ∷ Galileo ∷ []
timing_before Sbas = Gps ∷ Galileo ∷ Qzss ∷ []
timing_before Navic = Gps ∷ Galileo ∷ Qzss ∷ Sbas ∷ []

-- the first system of a station that times chains
abbrev pub is_first_timing : List CaptureSurvey → ℕ → System → Bool
is_first_timing ss n system = times_chains system && not (list_any (is_system_sent ss n) (timing_before system))

-- ---- the lines

-- no clock of a system that is sent and converted is compared
abbrev pub is_system_unchecked : List AnyCode → List CaptureSurvey → ℕ → System → Bool
is_system_unchecked listed ss n system =
    lists_system listed system && (is_system_sent ss n system && (clocks_compared ss n system == 0 && not (is_first_timing ss n system)))

-- formula
abbrev pub unchecked_system_line : List AnyCode → List CaptureSurvey → ℕ → System → List ℕ
unchecked_system_line listed ss n system = if is_system_unchecked listed ss n system then codes " unchecked " ++ letter_of system ∷ 10 ∷ [] else []

abbrev pub unchecked_system_lines : List AnyCode → List CaptureSurvey → ℕ → List ℕ
unchecked_system_lines listed ss n = flat_map (unchecked_system_line listed ss n) systems_in_order
