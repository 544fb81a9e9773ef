-- Message 1006 after its number (RTCM 10403.3, message 1006): 156 bits.
-- Source: RTCM 10403.3, message 1006
use Rattle.std.specs.Prelude.{Bool, List, [], ◌∷◌, ◌++◌, length, Option, Some, None, nat_lt, if◌then◌else◌}
use Rattle.rtk_message.specs.Fields.{Field, u, FieldsFit}
use Rattle.rtk_message.specs.Arp1005 as arp1005
use Rattle.rtk_message.specs.declared.arp1006.Arp1006.{Arp1006}
use Rattle.rtk_message.specs.declared.fault.DecodeFault.{DecodeFault}
use Rattle.rtk_message.specs.declared.fault.DecodeFault.TheVariants.{Short}

-- table
-- the fields of a 1005, DF003 to DF027, and DF028
abbrev pub table : Arp1006 → List Field
table m = arp1005.table m.arp ++ u 16 m.height ∷ []

abbrev pub IsValid : Arp1006 → Type 0
IsValid m = FieldsFit (table m)

-- formula
-- the first fault of bits after the number (this project's rule)
abbrev pub first_fault : List Bool → Option DecodeFault
first_fault bs = if nat_lt (length bs) 156 then Some (Short 1006) else None
