-- Message 1005 after its number (RTCM 10403.3, message 1005): 140 bits.
-- Source: RTCM 10403.3, message 1005
use Rattle.std.specs.Prelude.{Bool, List, [], ◌∷◌, length, Option, Some, None, nat_lt, if◌then◌else◌}
use Rattle.rtk_message.specs.Fields.{Field, u, i, flag, FieldsFit}
use Rattle.rtk_message.specs.declared.arp1005.Arp1005.{Arp1005}
use Rattle.rtk_message.specs.declared.fault.DecodeFault.{DecodeFault}
use Rattle.rtk_message.specs.declared.fault.DecodeFault.TheVariants.{Short}

-- table
-- DF003, DF021 to DF024, DF141, DF025, DF142, DF001, DF026, DF364, DF027
abbrev pub table : Arp1005 → List Field
table m =
    u 12 m.station ∷ u 6 m.realization_year ∷ flag m.gps ∷ flag m.glonass ∷ flag m.galileo ∷ flag m.reference_station ∷
    i 38 m.x ∷ flag m.single_oscillator ∷ flag m.reserved ∷ i 38 m.y ∷ u 2 m.quarter_cycle ∷ i 38 m.z ∷ []

abbrev pub IsValid : Arp1005 → Type 0
IsValid m = FieldsFit (table m)

-- formula
-- the first fault of bits after the number (this project's rule)
abbrev pub first_fault : List Bool → Option DecodeFault
first_fault bs = if nat_lt (length bs) 140 then Some (Short 1005) else None
