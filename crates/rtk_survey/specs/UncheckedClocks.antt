-- The systems of a station of which no clock is compared with that of another one, and all lines of its clocks (this
-- project's rule).
use Rattle.std.specs.Prelude.{ℕ, ◌==◌, Bool, true, false, ◌&&◌, ◌||◌, List, [], ◌∷◌, ◌++◌, codes, Option, None, Some, if◌then◌else◌}
use Rattle.std.specs.List.{list_any}
use Rattle.rtk_message.specs.declared.system.System.{System}
use Rattle.rtk_message.specs.declared.system.System.TheVariants.{Gps, Glonass, Galileo, Beidou, Qzss, Sbas, Navic}
use Rattle.rtk_obs.specs.declared.any_code.AnyCode.{AnyCode}
use Rattle.rtk_obs.specs.declared.code.Code.{Code}
use Rattle.rtk_obs.specs.AnyCode.{system_of, all_any_codes}
use Rattle.rtk_obs.specs.Code.{all_codes}
use Rattle.rtk_obs.specs.SatelliteIndex.{letter_of}
use Rattle.rtk_survey.specs.Chains.{offsets_of}
use Rattle.rtk_survey.specs.ClockLines.{compared_clocks, clock_lines}
use Rattle.rtk_survey.specs.declared.clock_chains.ClockOffsets.{ClockOffsets}
use Rattle.rtk_survey.specs.declared.date_message.UtcDate.{UtcDate}
use Rattle.rtk_survey.specs.declared.systems_sent.SystemsSent.{SystemsSent}

-- ---- the systems that are sent

-- a code of the system with this letter has a value
abbrev pub is_sent_code : ℕ → (AnyCode → Bool) → AnyCode → Bool
is_sent_code letter other c = (letter_of (system_of c) == letter) && other c

unfoldable pub sends_letter : ℕ → (AnyCode → Bool) → Bool
sends_letter letter other = list_any (is_sent_code letter other) all_any_codes

unfoldable pub sends_gps : (Code → Bool) → Bool
sends_gps code = list_any code all_codes

-- table
-- the systems that have a code with a value, by the tests which codes have one
unfoldable pub systems_sent : (Code → Bool) → (AnyCode → Bool) → SystemsSent
systems_sent code other =
    record {
      gps = sends_gps code;
      glonass = sends_letter 82 other;
      galileo = sends_letter 69 other;
      beidou = sends_letter 67 other;
      qzss = sends_letter 74 other;
      sbas = sends_letter 83 other;
      navic = sends_letter 73 other;
    }

-- table
abbrev pub is_sent : SystemsSent → System → Bool
is_sent s Gps = s.gps
is_sent s Glonass = s.glonass
is_sent s Galileo = s.galileo
is_sent s Beidou = s.beidou
is_sent s Qzss = s.qzss
is_sent s Sbas = s.sbas
is_sent s Navic = s.navic

-- ---- clocks that are to be compared

-- table
-- clocks of a system are to be compared: another system is sent that times chains before this one, or this one times none
abbrev pub is_timed : SystemsSent → System → Bool
is_timed s Gps = false
is_timed s Glonass = true
is_timed s Galileo = s.gps
is_timed s Beidou = true
is_timed s Qzss = s.gps || s.galileo
is_timed s Sbas = s.gps || (s.galileo || s.qzss)
is_timed s Navic = s.gps || (s.galileo || (s.qzss || s.sbas))

-- table
-- clocks of GLONASS are compared with the leap seconds of a date
abbrev pub lacks_date : Option UtcDate → System → Bool
lacks_date (Some d) system = false
lacks_date None Gps = false
lacks_date None Glonass = true
lacks_date None Galileo = false
lacks_date None Beidou = false
lacks_date None Qzss = false
lacks_date None Sbas = false
lacks_date None Navic = false

-- no clock of a system that is sent is compared
abbrev pub is_unchecked : Option UtcDate → SystemsSent → ClockOffsets → System → Bool
is_unchecked date sent s system =
    is_sent sent system && (is_timed sent system && (lacks_date date system || (compared_clocks (offsets_of s system) == 0)))

-- formula
abbrev pub unchecked_line : Option UtcDate → SystemsSent → ClockOffsets → System → List ℕ
unchecked_line date sent s system = if is_unchecked date sent s system then codes " unchecked " ++ letter_of system ∷ 10 ∷ [] else []

-- formula
unfoldable pub unchecked_lines : Option UtcDate → SystemsSent → ClockOffsets → List ℕ
unchecked_lines date sent s =
    unchecked_line date sent s Glonass ++ unchecked_line date sent s Galileo ++ unchecked_line date sent s Beidou
    ++ unchecked_line date sent s Qzss ++ unchecked_line date sent s Sbas ++ unchecked_line date sent s Navic

-- formula
-- the lines of clocks of a station, by its date and the systems that are sent
unfoldable pub all_clock_lines : Option UtcDate → SystemsSent → ClockOffsets → List ℕ
all_clock_lines date sent s = clock_lines date s ++ unchecked_lines date sent s
