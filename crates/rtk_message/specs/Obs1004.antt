-- Message 1004 after its number (RTCM 10403.3, message 1004): 52 bits, and 125 for each satellite.
-- Source: RTCM 10403.3, message 1004
use Rattle.std.specs.Prelude.{ℕ, ◌+◌, ◌*◌, ◌<◌, Bool, List, [], ◌∷◌, ◌++◌, length, take, drop, Option, Some, None, nat_lt, nat_le, if◌then◌else◌}
use Rattle.std.specs.List.{flat_map}
use Rattle.rtk_bits.specs.Bits.{unsigned}
use Rattle.rtk_message.specs.Fields.{week_ms, tow_in, Field, u, i, flag, FieldsFit}
use Rattle.rtk_message.specs.declared.fault.DecodeFault.{DecodeFault}
use Rattle.rtk_message.specs.declared.fault.DecodeFault.TheVariants.{Short, EpochRange}
use Rattle.rtk_message.specs.declared.obs1004.Satellite.{Satellite}
use Rattle.rtk_message.specs.declared.obs1004.Obs1004.{Obs1004}

-- table
-- one satellite: DF009 to DF020
abbrev pub satellite_table : Satellite → List Field
satellite_table s =
    u 6 s.satellite ∷ flag s.l1_code ∷ u 24 s.l1_range ∷ i 20 s.l1_phase_difference ∷ u 7 s.l1_lock_indicator ∷
    u 8 s.modulus_ambiguity ∷ u 8 s.l1_cnr ∷
    u 2 s.l2_code ∷ i 14 s.l2_range_difference ∷ i 20 s.l2_phase_difference ∷ u 7 s.l2_lock_indicator ∷ u 8 s.l2_cnr ∷ []

-- table
-- the header: DF003 to DF008
abbrev pub header_fields : ℕ → ℕ → Bool → ℕ → Bool → ℕ → List Field
header_fields station tow synchronous count smoothing smoothing_interval =
    u 12 station ∷ u 30 tow ∷ flag synchronous ∷ u 5 count ∷ flag smoothing ∷ u 3 smoothing_interval ∷ []

-- the count (DF006) is the number of satellites
abbrev pub header_table : Obs1004 → List Field
header_table m = header_fields m.station m.tow m.synchronous (length m.satellites) m.smoothing m.smoothing_interval

-- table
abbrev pub table : Obs1004 → List Field
table m = header_table m ++ flat_map satellite_table m.satellites

-- each field fits, and the time lies in a week
pub record IsValid (m : Obs1004) : Type 0 where
  pub fields_fit : FieldsFit (table m)
  pub time_in_week : m.tow < week_ms

-- ---- the first fault of bits after the number

-- formula
-- how many bits the satellites take, by their number (DF006)
abbrev pub satellite_bits : List Bool → ℕ
satellite_bits bs = 125 * unsigned (take 5 (drop 43 bs))

-- formula
-- in the order in which causes are looked for (this project's rule)
abbrev pub first_fault : List Bool → Option DecodeFault
first_fault bs =
    if nat_lt (length bs) 52 then Some (Short 1004) else
    if nat_le week_ms (tow_in bs) then Some (EpochRange 1004) else
    if nat_lt (length bs) (52 + satellite_bits bs) then Some (Short 1004) else None
