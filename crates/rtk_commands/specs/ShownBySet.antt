-- The line that is shown of a payload by a set of messages: those of the set are read, and no others. The forms of
-- the lines are this project's rule.
use Rattle.std.specs.Prelude.{◌≡◌, ℕ, List, [], ◌∷◌, ◌++◌, codes, decimal, length, Result, Ok, Err}
use Rattle.rtk_bits.specs.Bits.{bits}
use Rattle.rtk_message.specs.declared.accepted.Accepted.{Accepted}
use Rattle.rtk_message.specs.declared.any_message.AnyMessage.{AnyMessage}
use Rattle.rtk_message.specs.declared.any_message.AnyMessage.TheVariants.{Message as OfFour, Msm as OfMsm, Obs1012 as Of1012}
use Rattle.rtk_message.specs.declared.any_fault.AnyFault.{AnyFault}
use Rattle.rtk_message.specs.declared.any_fault.AnyFault.TheVariants.{NoNumber, Other, Short, EpochRange, TooManyCells}
use Rattle.rtk_message.specs.declared.msm.Msm.{Msm}
use Rattle.rtk_message.specs.declared.obs1012.Obs1012.{Obs1012}
use Rattle.rtk_message.specs.AnyDecoded.{DecodesBy}
use Rattle.rtk_message.specs.AnyFaultCode.{any_fault_text}
use Rattle.rtk_message.specs.MsmForm.{type_of, cell_count}
use Rattle.rtk_message.specs.Systems.{number_of_type}
use Rattle.rtk_commands.specs.Shown.{msm_text, message_text}

-- formula
-- an MSM other than 1074 has the form of a 1074, but for the word before its clock
abbrev pub text_msm : Msm → List ℕ
text_msm m = msm_text (number_of_type (type_of m)) m.system m.header (cell_count m)

-- formula
-- as in: 1012 station 0 clock 18942000 satellites 8; the clock is the time of day (DF034)
abbrev pub text_1012 : Obs1012 → List ℕ
text_1012 m =
    codes "1012 station " ++ decimal m.station ++ codes " clock " ++ decimal m.time_of_day_ms
    ++ codes " satellites " ++ decimal (length m.satellites)

abbrev pub any_message_text : AnyMessage → List ℕ
any_message_text (OfFour m) = message_text m
any_message_text (OfMsm m) = text_msm m
any_message_text (Of1012 m) = text_1012 m

-- formula
-- as in: refused M5 1077
abbrev pub any_refusal_text : AnyFault → List ℕ
any_refusal_text fault = codes "refused " ++ any_fault_text fault

-- formula
-- a payload that is no message of the set: the number of another message, or why it is refused
abbrev pub any_unread_text : AnyFault → List ℕ
any_unread_text NoNumber = any_refusal_text NoNumber
any_unread_text (Other number) = decimal number ++ codes " other"
any_unread_text (Short number) = any_refusal_text (Short number)
any_unread_text (EpochRange number) = any_refusal_text (EpochRange number)
any_unread_text (TooManyCells number) = any_refusal_text (TooManyCells number)

-- formula
-- the line of a message or of a payload that is no message: its text, and a line feed
abbrev pub any_line_of : Result AnyMessage AnyFault → List ℕ
any_line_of (Ok m) = any_message_text m ++ 10 ∷ []
any_line_of (Err fault) = any_unread_text fault ++ 10 ∷ []

-- the line of a payload by a set is the line of what it decodes to, if the messages of this set are read
abbrev pub IsLineBy : Accepted → List ℕ → List ℕ → Type 0
IsLineBy a payload line =
    (reading : Result AnyMessage AnyFault) × DecodesBy a (bits payload) reading × (line ≡ any_line_of reading)
