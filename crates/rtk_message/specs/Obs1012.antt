-- Message 1012 after its number (RTCM 10403.3, message 1012): 49 bits, and 130 for each satellite.
-- Source: RTCM 10403.3, message 1012
use Rattle.std.specs.Prelude.{ℕ, ◌+◌, ◌*◌, ◌%◌, ◌^◌, ◌<◌, Bool, List, [], ◌∷◌, ◌++◌, length, take, drop, Option, Some, None, nat_lt, nat_le, if◌then◌else◌}
use Rattle.std.specs.List.{flat_map}
use Rattle.rtk_bits.specs.Bits.{unsigned}
use Rattle.rtk_message.specs.Fields.{longest_day_ms, Field, u, i, flag, FieldsFit}
use Rattle.rtk_message.specs.declared.fault.DecodeFault.{DecodeFault}
use Rattle.rtk_message.specs.declared.fault.DecodeFault.TheVariants.{Short, EpochRange}
use Rattle.rtk_message.specs.declared.obs1012.GlonassSatellite.{GlonassSatellite}
use Rattle.rtk_message.specs.declared.obs1012.Obs1012.{Obs1012}

-- table
-- one satellite: DF038 to DF050
abbrev pub satellite_table : GlonassSatellite → List Field
satellite_table s =
    u 6 s.slot ∷ flag s.l1_code ∷ u 5 s.channel ∷ u 25 s.l1_range ∷ i 20 s.l1_phase_difference ∷ u 7 s.l1_lock_indicator ∷
    u 7 s.modulus_ambiguity ∷ u 8 s.l1_cnr ∷
    u 2 s.l2_code ∷ i 14 s.l2_range_difference ∷ i 20 s.l2_phase_difference ∷ u 7 s.l2_lock_indicator ∷ u 8 s.l2_cnr ∷ []

-- table
-- the header: DF003, DF034, DF005, DF035, DF036, DF037
abbrev pub header_fields : ℕ → ℕ → Bool → ℕ → Bool → ℕ → List Field
header_fields station time_of_day synchronous count smoothing smoothing_interval =
    u 12 station ∷ u 27 time_of_day ∷ flag synchronous ∷ u 5 count ∷ flag smoothing ∷ u 3 smoothing_interval ∷ []

-- the count (DF035) is the number of satellites
abbrev pub header_table : Obs1012 → List Field
header_table m = header_fields m.station m.time_of_day_ms m.synchronous (length m.satellites) m.smoothing m.smoothing_interval

-- table
abbrev pub table : Obs1012 → List Field
table m = header_table m ++ flat_map satellite_table m.satellites

-- each field fits, and the time lies in a day
pub record IsValid (m : Obs1012) : Type 0 where
  pub fields_fit : FieldsFit (table m)
  pub time_in_day : m.time_of_day_ms < longest_day_ms

-- formula
-- the time of day as the clock of an MSM of GLONASS: the day (DF416, 3 bits) is 7, which is unknown, and the
-- time of day has 27 bits (DF034)
abbrev pub clock_of : Obs1012 → ℕ
clock_of m = 7 * 2 ^ 27 + m.time_of_day_ms % 2 ^ 27

-- ---- the first fault of bits after the number

-- formula
-- the time of day (DF034): the 27 bits after the station
abbrev pub time_of_day_in : List Bool → ℕ
time_of_day_in bs = unsigned (take 27 (drop 12 bs))

-- formula
-- how many bits the satellites take, by their number (DF035)
abbrev pub satellite_bits : List Bool → ℕ
satellite_bits bs = 130 * unsigned (take 5 (drop 40 bs))

-- formula
-- in the order in which causes are looked for (this project's rule)
abbrev pub first_fault : List Bool → Option DecodeFault
first_fault bs =
    if nat_lt (length bs) 49 then Some (Short 1012) else
    if nat_le longest_day_ms (time_of_day_in bs) then Some (EpochRange 1012) else
    if nat_lt (length bs) (49 + satellite_bits bs) then Some (Short 1012) else None
