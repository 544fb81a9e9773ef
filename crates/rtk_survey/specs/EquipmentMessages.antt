-- The messages that tell an antenna or a receiver (RTCM 10403.3): 1007, 1008 and 1033. The message
-- number (DF002) and the station (DF003) have 12 bits each, so that all other fields are whole bytes.
-- The first byte of a payload has the place 0.
use Rattle.std.specs.Prelude.{ℕ, ◌+◌, ◌==◌, Bool, List, length, take, drop, get_or, Option, None, Some, nat_lt, if◌then◌else◌}
use Rattle.arrayvec.specs.ArrayVec.{ArrayVec}
use Rattle.rtk_bits.specs.Bits.{bits, unsigned}
use Rattle.rtk_survey.specs.declared.equipment_message.Antenna.{Antenna}
use Rattle.rtk_survey.specs.declared.equipment_message.Receiver.{Receiver}
use Rattle.rtk_survey.specs.declared.equipment_message.EquipmentMessage.{EquipmentMessage}

-- ---- fields

-- formula
-- the text whose count of bytes stands at a place
abbrev pub text_at : ℕ → List ℕ → ArrayVec ℕ
text_at place bytes = record { items = take (get_or bytes place 0) (drop (place + 1) bytes) }

-- formula
-- the place behind it
abbrev pub behind_text : ℕ → List ℕ → ℕ
behind_text place bytes = place + 1 + get_or bytes place 0

-- ---- the places of fields

-- formula
-- DF031, behind the antenna's type (DF029, DF030), which stands behind the first three bytes
unfoldable pub setup_place : List ℕ → ℕ
setup_place bytes = behind_text 3 bytes

-- formula
-- the end of a 1007; there DF032 and DF033, the antenna's serial number, begin in a 1008 and a 1033
unfoldable pub end_of_1007 : List ℕ → ℕ
end_of_1007 bytes = setup_place bytes + 1

-- formula
-- the end of a 1008; there DF227 and DF228, the receiver's type, begin in a 1033
unfoldable pub end_of_1008 : List ℕ → ℕ
end_of_1008 bytes = behind_text (end_of_1007 bytes) bytes

-- formula
-- DF229 and DF230, the receiver's firmware
unfoldable pub version_place : List ℕ → ℕ
version_place bytes = behind_text (end_of_1008 bytes) bytes

-- formula
-- DF231 and DF232, the receiver's serial number
unfoldable pub receiver_serial_place : List ℕ → ℕ
receiver_serial_place bytes = behind_text (version_place bytes) bytes

-- formula
unfoldable pub end_of_1033 : List ℕ → ℕ
end_of_1033 bytes = behind_text (receiver_serial_place bytes) bytes

-- ---- messages

-- formula
-- the antenna of a message, with this serial number if the message has one
abbrev pub antenna_at : Option (ArrayVec ℕ) → List ℕ → Antenna
antenna_at serial bytes = record { antenna_type = text_at 3 bytes; setup = get_or bytes (setup_place bytes) 0; serial = serial }

-- formula
-- the receiver of a 1033
abbrev pub receiver_at : List ℕ → Receiver
receiver_at bytes =
    record {
      receiver_type = text_at (end_of_1008 bytes) bytes;
      version = text_at (version_place bytes) bytes;
      serial = text_at (receiver_serial_place bytes) bytes;
    }

abbrev pub told_of : ℕ → Antenna → Option Receiver → EquipmentMessage
told_of station antenna receiver = record { station = station; antenna = antenna; receiver = receiver }

-- a message that is cut short tells nothing
abbrev pub if_whole : ℕ → List ℕ → EquipmentMessage → Option EquipmentMessage
if_whole size bytes message = if nat_lt (length bytes) size then None else Some message

-- formula
abbrev pub told_by_1007 : ℕ → List ℕ → Option EquipmentMessage
told_by_1007 station bytes = if_whole (end_of_1007 bytes) bytes (told_of station (antenna_at None bytes) None)

-- formula
abbrev pub told_by_1008 : ℕ → List ℕ → Option EquipmentMessage
told_by_1008 station bytes =
    if_whole (end_of_1008 bytes) bytes (told_of station (antenna_at (Some (text_at (end_of_1007 bytes) bytes)) bytes) None)

-- formula
abbrev pub told_by_1033 : ℕ → List ℕ → Option EquipmentMessage
told_by_1033 station bytes =
    if_whole (end_of_1033 bytes) bytes
    (told_of station (antenna_at (Some (text_at (end_of_1007 bytes) bytes)) bytes) (Some (receiver_at bytes)))

-- formula
-- what a message of this number tells
abbrev pub equipment_numbered : ℕ → ℕ → List ℕ → Option EquipmentMessage
equipment_numbered number station bytes =
    if number == 1007 then told_by_1007 station bytes else
    if number == 1008 then told_by_1008 station bytes else
    if number == 1033 then told_by_1033 station bytes else None

-- formula
-- what the payload of these bits tells: DF002 and DF003 are its first 24
abbrev pub equipment_of_bits : List Bool → List ℕ → Option EquipmentMessage
equipment_of_bits bs bytes =
    if nat_lt (length bs) 24 then None else equipment_numbered (unsigned (take 12 bs)) (unsigned (take 12 (drop 12 bs))) bytes

-- what a payload tells of an antenna and a receiver, if it is one of these messages
abbrev pub equipment_in : List ℕ → Option EquipmentMessage
equipment_in bytes = equipment_of_bits (bits bytes) bytes
