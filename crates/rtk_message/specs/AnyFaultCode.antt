-- The causes why a payload is not read by a set of messages, and how texts show them (this
-- project's rule).
use Rattle.std.specs.Prelude.{ℕ, List, ◌++◌, codes, Option, None, Some}
use Rattle.rtk_message.specs.FaultCode.{number_text}
use Rattle.rtk_message.specs.declared.fault.DecodeFault.{DecodeFault}
use Rattle.rtk_message.specs.declared.fault.DecodeFault.TheVariants as fault
use Rattle.rtk_message.specs.declared.any_fault.AnyFault.{AnyFault}
use Rattle.rtk_message.specs.declared.any_fault.AnyFault.TheVariants.{NoNumber, Other, Short, EpochRange, TooManyCells}

-- table
-- a cause as one of the wider set; too many cells are those of a 1074
abbrev pub any_fault_of : DecodeFault → AnyFault
any_fault_of fault.NoNumber = NoNumber
any_fault_of (fault.Other number) = Other number
any_fault_of (fault.Short number) = Short number
any_fault_of (fault.EpochRange number) = EpochRange number
any_fault_of fault.TooManyCells = TooManyCells 1074

-- table
-- the code of a cause, as text
abbrev pub any_fault_code : AnyFault → List ℕ
any_fault_code NoNumber = codes "M1"
any_fault_code (Other number) = codes "M2"
any_fault_code (Short number) = codes "M3"
any_fault_code (EpochRange number) = codes "M4"
any_fault_code (TooManyCells number) = codes "M5"

-- formula
-- the number of the message (DF002), if the payload has one
abbrev pub any_fault_number : AnyFault → Option ℕ
any_fault_number NoNumber = None
any_fault_number (Other number) = Some number
any_fault_number (Short number) = Some number
any_fault_number (EpochRange number) = Some number
any_fault_number (TooManyCells number) = Some number

-- table
-- the code and the number of the message, as in: M5 1077
abbrev pub any_fault_text : AnyFault → List ℕ
any_fault_text fault = any_fault_code fault ++ codes " " ++ number_text (any_fault_number fault)
