-- How far the clocks of a station's systems are apart in captures, and which systems are left out by them (this project's
-- rule).
use Rattle.std.specs.Prelude.{ℕ, ◌+◌, ◌-◌, ◌*◌, ◌%◌, ◌==◌, Bool, true, false, not, ◌&&◌, nat_lt, nat_le, List, [], ◌∷◌, ◌++◌, map, flat_map, Option, None, Some, if◌then◌else◌}
use Rattle.std.specs.List.{sum_by}
use Rattle.rtk_message.specs.Fields.{week_ms}
use Rattle.rtk_message.specs.declared.system.System.{System}
use Rattle.rtk_message.specs.declared.system.System.TheVariants.{Glonass, Galileo, Beidou, Qzss, Sbas, Navic}
use Rattle.rtk_obs.specs.SatelliteIndex.{letter_of}
use Rattle.rtk_survey.specs.Chains.{offsets_of}
use Rattle.rtk_survey.specs.ClockLines.{told_offset, compared_clocks, clock_line_of}
use Rattle.rtk_survey.specs.Counting.{shown_count}
use Rattle.rtk_survey.specs.declared.clock_chains.ClockOffset.{ClockOffset}
use Rattle.rtk_survey.specs.declared.clock_chains.ClockOffsets.{ClockOffsets}
use Rattle.rtk_survey.specs.declared.clock_chains.ClockSurvey.{ClockSurvey}
use Rattle.rtk_survey.specs.declared.clock_chains.DayOffset.{DayOffset}
use Rattle.rtk_survey.specs.declared.station.StationSurvey.{StationSurvey}
use Rattle.rtk_survey.specs.declared.survey.CaptureSurvey.{CaptureSurvey}
use Rattle.rtk_survey.specs.Contents.{station_in}
use Rattle.rtk_systems.specs.ClockSeconds.{seconds_on}
use Rattle.rtk_systems.specs.MessageLines.{held_lines}
use Rattle.rtk_rinex.specs.SystemFlags.{flag_of}
use Rattle.rtk_systems.specs.Values.{is_glonass_system}
use Rattle.rtk_systems.specs.declared.clock_seconds.ClockSeconds.{ClockSeconds}
use Rattle.rtk_rinex.specs.declared.system_flags.SystemFlags.{SystemFlags}

-- ---- the offsets of captures

-- the offsets of a system within the chains of a capture
abbrev pub offsets_in_clocks : System → List ClockSurvey → List ClockOffset
offsets_in_clocks system [] = []
offsets_in_clocks system (c ∷ cs) = offsets_of c.offsets system

abbrev pub offsets_of_station : System → Option StationSurvey → List ClockOffset
offsets_of_station system None = []
offsets_of_station system (Some t) = offsets_in_clocks system t.clocks.items

abbrev pub offsets_in_capture : ℕ → System → CaptureSurvey → List ClockOffset
offsets_in_capture n system s = offsets_of_station system (station_in n s)

-- how many clocks are compared
abbrev pub clocks_compared : List CaptureSurvey → ℕ → System → ℕ
clocks_compared ss n system = shown_count (sum_by (λ s. compared_clocks (offsets_in_capture n system s)) ss)

-- ---- the offsets of GPS time

-- formula
-- the offset of GPS time, in ms: clocks of GLONASS tell UTC, which is so many seconds behind
abbrev pub gps_ahead : ℕ → ℕ → ℕ
gps_ahead seconds ahead = (ahead + 1000 * seconds) % week_ms

abbrev pub offset_on_day : ClockSeconds → DayOffset → ClockOffset
offset_on_day seconds o = record { ahead_ms = gps_ahead (seconds_on seconds o.day) o.ahead_ms; count = o.count }

-- the offsets of a system: those of GLONASS by the leap seconds of each day, and those of others as a survey has them. One
-- that clocks of several days have stands there several times
abbrev pub gps_offsets_by : ClockSeconds → System → ClockOffsets → List ClockOffset
gps_offsets_by seconds system s = if is_glonass_system system then map (offset_on_day seconds) s.glonass_days.items else offsets_of s system

abbrev pub gps_offsets_in_clocks : ClockSeconds → System → List ClockSurvey → List ClockOffset
gps_offsets_in_clocks seconds system [] = []
gps_offsets_in_clocks seconds system (c ∷ cs) = gps_offsets_by seconds system c.offsets

abbrev pub gps_offsets_of_station : ClockSeconds → System → Option StationSurvey → List ClockOffset
gps_offsets_of_station seconds system None = []
gps_offsets_of_station seconds system (Some t) = gps_offsets_in_clocks seconds system t.clocks.items

-- within the chains of a capture
abbrev pub gps_offsets_in_capture : ClockSeconds → ℕ → System → CaptureSurvey → List ClockOffset
gps_offsets_in_capture seconds n system s = gps_offsets_of_station seconds system (station_in n s)

-- those of all captures
abbrev pub gps_offsets_in_captures : ClockSeconds → List CaptureSurvey → ℕ → System → List ClockOffset
gps_offsets_in_captures seconds ss n system = flat_map (gps_offsets_in_capture seconds n system) ss

-- ---- how many clocks have an offset

-- how often clocks are ahead by this
abbrev pub count_if_ahead : ℕ → ClockOffset → ℕ
count_if_ahead ahead o = if o.ahead_ms == ahead then o.count else 0

abbrev pub ahead_in_list : ℕ → List ClockOffset → ℕ
ahead_in_list ahead os = shown_count (sum_by (count_if_ahead ahead) os)

-- an offset, and how many clocks of a list have it
abbrev pub total_among : List ClockOffset → ClockOffset → ClockOffset
total_among all o = record { ahead_ms = o.ahead_ms; count = ahead_in_list o.ahead_ms all }

-- the offset that is told of a list
abbrev pub told_among : List ClockOffset → Option ClockOffset
told_among all = told_offset (map (total_among all) all)

-- ---- systems that are left out

-- constant
-- an offset of 500 ms or more, which more clocks have than are right
abbrev pub is_wrong_offset : ℕ → Option ClockOffset → Bool
is_wrong_offset right None = false
is_wrong_offset right (Some o) = nat_le 500 o.ahead_ms && (nat_le o.ahead_ms (week_ms - 500) && nat_lt right o.count)

abbrev pub is_wrong_among : List ClockOffset → Bool
is_wrong_among all = is_wrong_offset (ahead_in_list 0 all) (told_among all)

-- the clocks of a system are right, by these leap seconds
abbrev pub is_clock_right : List CaptureSurvey → ℕ → ClockSeconds → System → Bool
is_clock_right ss n seconds system = not (is_wrong_among (gps_offsets_in_captures seconds ss n system))

-- table
-- the systems whose clocks are not wrong. That of GPS times the chains
abbrev pub systems_with_clocks : List CaptureSurvey → ℕ → ClockSeconds → SystemFlags
systems_with_clocks ss n seconds =
    record {
      gps = true;
      glonass = is_clock_right ss n seconds Glonass;
      galileo = is_clock_right ss n seconds Galileo;
      beidou = is_clock_right ss n seconds Beidou;
      qzss = is_clock_right ss n seconds Qzss;
      sbas = is_clock_right ss n seconds Sbas;
      navic = is_clock_right ss n seconds Navic;
    }

-- ---- the lines

abbrev pub told_line_of : System → List ClockOffset → List ℕ
told_line_of system all = clock_line_of (letter_of system) (compared_clocks all) (told_among all)

abbrev pub told_clock_line : List CaptureSurvey → ℕ → ClockSeconds → System → List ℕ
told_clock_line ss n seconds system = told_line_of system (gps_offsets_in_captures seconds ss n system)

-- the same of a system that is asked for
abbrev pub asked_clock_line : SystemFlags → List CaptureSurvey → ℕ → ClockSeconds → System → List ℕ
asked_clock_line asked ss n seconds system = if flag_of asked system then told_clock_line ss n seconds system else []

-- table
-- the systems whose clocks are compared with those of GPS, in the order of a file
abbrev pub compared_systems : List System
compared_systems = Glonass ∷ Galileo ∷ Beidou ∷ Qzss ∷ Sbas ∷ Navic ∷ []

-- the systems among those that are asked for whose clocks differ from those of their chains
unfoldable pub told_clock_lines : SystemFlags → List CaptureSurvey → ℕ → ClockSeconds → List ℕ
told_clock_lines asked ss n seconds = flat_map (asked_clock_line asked ss n seconds) compared_systems

-- what captures hold in which no code of the systems that are asked for is found: a clock that differs may be the cause
abbrev pub held_without_code : SystemFlags → List CaptureSurvey → ℕ → ClockSeconds → List ℕ
held_without_code asked ss n seconds = told_clock_lines asked ss n seconds ++ held_lines ss
