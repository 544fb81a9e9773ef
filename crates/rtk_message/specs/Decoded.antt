-- With which message bits begin, and the first fault if they begin with no message.
-- Source: RTCM 10403.3, messages 1004, 1005, 1006 and 1074
use Rattle.std.specs.Prelude.{◌≡◌, ℕ, Bool, List, ◌∷◌, ◌++◌, length, take, drop, Option, Some, None, Result, Ok, IfOk, IfErr, ◌==◌, nat_lt, if◌then◌else◌}
use Rattle.rtk_bits.specs.Bits.{bits, unsigned, padding}
use Rattle.rtk_message.specs.declared.message.Message.{Message}
use Rattle.rtk_message.specs.declared.message.Message.TheVariants.{Obs1004, Arp1005, Arp1006, Msm1074}
use Rattle.rtk_message.specs.declared.fault.DecodeFault.{DecodeFault}
use Rattle.rtk_message.specs.declared.fault.DecodeFault.TheVariants.{NoNumber, Other}
use Rattle.rtk_message.specs.Fields.{Field, u, bits_of_fields}
use Rattle.rtk_message.specs.Obs1004 as obs1004
use Rattle.rtk_message.specs.Arp1005 as arp1005
use Rattle.rtk_message.specs.Arp1006 as arp1006
use Rattle.rtk_message.specs.Msm1074 as msm1074

-- table
-- the message number (RTCM 10403.3, DF002)
abbrev pub number_of : Message → ℕ
number_of (Obs1004 m) = 1004
number_of (Arp1005 m) = 1005
number_of (Arp1006 m) = 1006
number_of (Msm1074 m) = 1074

-- formula
-- the reference station (DF003)
abbrev pub station_of : Message → ℕ
station_of (Obs1004 m) = m.station
station_of (Arp1005 m) = m.station
station_of (Arp1006 m) = m.arp.station
station_of (Msm1074 m) = m.header.station

-- the time of week (DF004), which the station messages do not have
abbrev pub tow_of : Message → Option ℕ
tow_of (Obs1004 m) = Some m.tow
tow_of (Arp1005 m) = None
tow_of (Arp1006 m) = None
tow_of (Msm1074 m) = Some m.header.tow

-- the fields after the number
abbrev pub fields_after_number : Message → List Field
fields_after_number (Obs1004 m) = obs1004.table m
fields_after_number (Arp1005 m) = arp1005.table m
fields_after_number (Arp1006 m) = arp1006.table m
fields_after_number (Msm1074 m) = msm1074.table m

-- table
-- all fields of a message, the number first
abbrev pub table : Message → List Field
table m = u 12 (number_of m) ∷ fields_after_number m

-- which messages can be written as bits
abbrev pub IsValid : Message → Type 0
IsValid (Obs1004 m) = obs1004.IsValid m
IsValid (Arp1005 m) = arp1005.IsValid m
IsValid (Arp1006 m) = arp1006.IsValid m
IsValid (Msm1074 m) = msm1074.IsValid m

-- the bits begin with the fields of a valid message
pub record Encodes (bs : List Bool) (m : Message) : Type 0 where
  pub valid : IsValid m
  pub begins : (rest : List Bool) × (bs ≡ bits_of_fields (table m) ++ rest)

-- the bytes are the fields of the message, with zero bits up to a whole byte
abbrev pub IsPayloadOf : Message → List ℕ → Type 0
IsPayloadOf m payload = bits payload ≡ bits_of_fields (table m) ++ padding (length (bits_of_fields (table m)))

-- ---- the first fault, in the order in which causes are looked for (this project's rule)

-- formula
-- the first fault of the bits after this number
abbrev pub fault_after_number : ℕ → List Bool → Option DecodeFault
fault_after_number n bs =
    if n == 1004 then obs1004.first_fault bs else
    if n == 1005 then arp1005.first_fault bs else
    if n == 1006 then arp1006.first_fault bs else
    if n == 1074 then msm1074.first_fault bs else Some (Other n)

-- formula
abbrev pub first_fault : List Bool → Option DecodeFault
first_fault bs = if nat_lt (length bs) 12 then Some NoNumber else fault_after_number (unsigned (take 12 bs)) (drop 12 bs)

-- what decoding answers
pub record Decodes (bs : List Bool) (r : Result Message DecodeFault) : Type 0 where
  -- a message is one that the bits begin with
  pub message : IfOk r (λ m. Encodes bs m)
  -- a fault is the first one
  pub fault : IfErr r (λ f. first_fault bs ≡ Some f)
  -- if the bits begin with a message, the answer is that message, and no fault
  pub only : (m : Message) → Encodes bs m → r ≡ Ok m
