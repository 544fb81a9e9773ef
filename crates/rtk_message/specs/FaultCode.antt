-- How texts show the cause why a payload is not read (this project's rule).
use Rattle.std.specs.Prelude.{ℕ, List, ◌++◌, codes, decimal, Option, None, Some}
use Rattle.rtk_message.specs.declared.fault.DecodeFault.{DecodeFault}
use Rattle.rtk_message.specs.declared.fault.DecodeFault.TheVariants.{NoNumber, Other, Short, EpochRange, TooManyCells}

-- table
-- the code of a cause, as text
abbrev pub fault_code : DecodeFault → List ℕ
fault_code NoNumber = codes "M1"
fault_code (Other number) = codes "M2"
fault_code (Short number) = codes "M3"
fault_code (EpochRange number) = codes "M4"
fault_code TooManyCells = codes "M5"

-- formula
-- the number of the message (DF002), if the payload has one
abbrev pub fault_number : DecodeFault → Option ℕ
fault_number NoNumber = None
fault_number (Other number) = Some number
fault_number (Short number) = Some number
fault_number (EpochRange number) = Some number
fault_number TooManyCells = Some 1074

-- formula
-- a number, or a hyphen if there is none
abbrev pub number_text : Option ℕ → List ℕ
number_text None = codes "-"
number_text (Some number) = decimal number

-- table
-- the code and the number of the message, as in: M3 1005
abbrev pub fault_text : DecodeFault → List ℕ
fault_text fault = fault_code fault ++ codes " " ++ number_text (fault_number fault)
