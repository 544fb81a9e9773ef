-- With which message of a set bits begin, and the first fault if they begin with none.
-- Source: RTCM 10403.3, messages 1004 to 1006, 1012, and 1071 to 1137
use Rattle.std.specs.Prelude.{◌≡◌, ℕ, ◌==◌, Bool, true, List, ◌∷◌, ◌++◌, length, take, drop, Option, Some, None, Result, Ok, Err, IfOk, IfErr, IsTrue, nat_lt, if◌then◌else◌}
use Rattle.rtk_bits.specs.Bits.{bits, unsigned, padding}
use Rattle.rtk_message.specs.declared.accepted.Accepted.{Accepted}
use Rattle.rtk_message.specs.declared.any_fault.AnyFault.{AnyFault}
use Rattle.rtk_message.specs.declared.any_fault.AnyFault.TheVariants.{NoNumber, Other}
use Rattle.rtk_message.specs.declared.any_message.AnyMessage.{AnyMessage}
use Rattle.rtk_message.specs.declared.any_message.AnyMessage.TheVariants.{Message, Msm, Obs1012}
use Rattle.rtk_message.specs.declared.fault.DecodeFault.{DecodeFault}
use Rattle.rtk_message.specs.declared.message.Message as message
use Rattle.rtk_message.specs.declared.msm_type.MsmType.{MsmType}
use Rattle.rtk_message.specs.Accepted.{accepts}
use Rattle.rtk_message.specs.AnyFaultCode.{any_fault_of}
use Rattle.rtk_message.specs.Decoded as decoded
use Rattle.rtk_message.specs.Fields.{Field, u, bits_of_fields}
use Rattle.rtk_message.specs.MsmForm as form
use Rattle.rtk_message.specs.Obs1012 as obs1012
use Rattle.rtk_message.specs.Systems.{number_of_type, type_of_number, tells_time}

-- formula
-- the message number (RTCM 10403.3, DF002)
abbrev pub number_of : AnyMessage → ℕ
number_of (Message m) = decoded.number_of m
number_of (Msm m) = number_of_type (form.type_of m)
number_of (Obs1012 m) = 1012

-- formula
-- the reference station (DF003)
abbrev pub station_of : AnyMessage → ℕ
station_of (Message m) = decoded.station_of m
station_of (Msm m) = m.header.station
station_of (Obs1012 m) = m.station

-- the clock, which the station messages do not have: that of GPS is the time of week (DF004), and that of a
-- 1012 is a time of day (DF034) with an unknown day
abbrev pub tow_of : AnyMessage → Option ℕ
tow_of (Message m) = decoded.tow_of m
tow_of (Msm m) = Some m.header.tow
tow_of (Obs1012 m) = Some (obs1012.clock_of m)

-- the fields after the number
abbrev pub fields_after_number : AnyMessage → List Field
fields_after_number (Message m) = decoded.fields_after_number m
fields_after_number (Msm m) = form.table m
fields_after_number (Obs1012 m) = obs1012.table m

-- table
-- all fields of a message, the number first
abbrev pub table : AnyMessage → List Field
table m = u 12 (number_of m) ∷ fields_after_number m

-- which messages can be written as bits
abbrev pub IsValid : AnyMessage → Type 0
IsValid (Message m) = decoded.IsValid m
IsValid (Msm m) = form.IsValid m
IsValid (Obs1012 m) = obs1012.IsValid m

-- the bits begin with the fields of a valid message
pub record Encodes (bs : List Bool) (m : AnyMessage) : Type 0 where
  pub valid : IsValid m
  pub begins : (rest : List Bool) × (bs ≡ bits_of_fields (table m) ++ rest)

-- the bytes are the fields of the message, with zero bits up to a whole byte
abbrev pub IsPayloadOf : AnyMessage → List ℕ → Type 0
IsPayloadOf m payload = bits payload ≡ bits_of_fields (table m) ++ padding (length (bits_of_fields (table m)))

-- ---- the first fault, in the order in which causes are looked for (this project's rule)

-- an answer for one of the four messages, as one of the wider set
abbrev pub any_of : Result message.Message DecodeFault → Result AnyMessage AnyFault
any_of (Ok m) = Ok (Message m)
any_of (Err f) = Err (any_fault_of f)

-- a fault, if there is one, as one of the wider set
abbrev pub if_any_fault_of : Option DecodeFault → Option AnyFault
if_any_fault_of None = None
if_any_fault_of (Some f) = Some (any_fault_of f)

-- the first fault of the bits after this number, which is that of no MSM
abbrev pub fault_of_no_type : ℕ → List Bool → Option AnyFault
fault_of_no_type n bs = if n == 1012 then if_any_fault_of (obs1012.first_fault bs) else if_any_fault_of (decoded.fault_after_number n bs)

-- the first fault of the bits after this number, which is that of an MSM of this type, or of no MSM
abbrev pub fault_of_type : Bool → Option MsmType → ℕ → List Bool → Option AnyFault
fault_of_type any_day (Some t) n bs = form.first_fault any_day t bs
fault_of_type any_day None n bs = fault_of_no_type n bs

-- formula
-- the first fault of the bits after this number, if messages of this number are read. The day of a clock has to
-- be known, or any day is taken
abbrev pub fault_after_number : Bool → ℕ → List Bool → Option AnyFault
fault_after_number any_day n bs = fault_of_type any_day (type_of_number n) n bs

-- formula
-- the first fault of the bits after this number, by a set of messages: with 1012 any day is taken
abbrev pub fault_by : Accepted → ℕ → List Bool → Option AnyFault
fault_by a n bs = if accepts a n then fault_after_number a.obs1012 n bs else Some (Other n)

-- formula
abbrev pub first_fault : Accepted → List Bool → Option AnyFault
first_fault a bs = if nat_lt (length bs) 12 then Some NoNumber else fault_by a (unsigned (take 12 bs)) (drop 12 bs)

-- the clock of a message is one that is read: an MSM of GLONASS has a known day, or any day is taken (this
-- project's rule)
abbrev pub takes_clock : Bool → AnyMessage → Bool
takes_clock any_day (Message m) = true
takes_clock any_day (Msm m) = tells_time any_day m.system m.header.tow
takes_clock any_day (Obs1012 m) = true

-- what decoding by a set of messages answers
pub record DecodesBy (a : Accepted) (bs : List Bool) (r : Result AnyMessage AnyFault) : Type 0 where
  -- a message is one that the bits begin with
  pub message : IfOk r (λ m. Encodes bs m)
  -- and one of the set
  pub accepted : IfOk r (λ m. IsTrue (accepts a (number_of m)))
  -- whose day is known, unless the set has 1012
  pub clock : IfOk r (λ m. IsTrue (takes_clock a.obs1012 m))
  -- a fault is the first one
  pub fault : IfErr r (λ f. first_fault a bs ≡ Some f)
  -- if the bits begin with such a message of the set, the answer is that message, and no fault
  pub only : (m : AnyMessage) → IsTrue (accepts a (number_of m)) → IsTrue (takes_clock a.obs1012 m) → Encodes bs m → r ≡ Ok m
