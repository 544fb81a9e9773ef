-- What the frames of a capture tell of antennas and receivers (this project's rule). Lists of frames and
-- of messages are newest first.
use Rattle.std.specs.Prelude.{ℕ, Bool, ◌||◌, List, Option, None, ◌++◌, Result, Ok, Err}
use Rattle.std.specs.List.{filter_map}
use Rattle.rtk_message.specs.declared.any_message.AnyMessage.{AnyMessage}
use Rattle.rtk_message.specs.declared.any_fault.AnyFault.{AnyFault}
use Rattle.rtk_survey.specs.EquipmentMessages.{equipment_in}
use Rattle.rtk_survey.specs.EquipmentHistory.{is_told}
use Rattle.rtk_survey.specs.declared.equipment.Equipment.{Equipment}
use Rattle.rtk_survey.specs.declared.equipment_message.EquipmentMessage.{EquipmentMessage}
use Rattle.rtk_survey.specs.FrameDates.{has_date}
use Rattle.rtk_survey.specs.EquipmentText.{equipment_lines}
use Rattle.rtk_survey.specs.ReadFrames.{ReadFrame}
use Rattle.rtk_survey.specs.SummaryText.{date_lines}
use Rattle.rtk_survey.specs.declared.station_dates.StationDates.{StationDates}

-- a frame tells an antenna or a receiver if it is no message that is read, and a 1007, 1008 or 1033
abbrev pub equipment_of_reading : List ℕ → Result AnyMessage AnyFault → Option EquipmentMessage
equipment_of_reading payload (Ok m) = None
equipment_of_reading payload (Err fault) = equipment_in payload

abbrev pub equipment_of_frame : ReadFrame → Option EquipmentMessage
equipment_of_frame f = equipment_of_reading f.payload f.reading

-- the messages among the frames that tell an antenna or a receiver
abbrev pub equipment_among : List ReadFrame → List EquipmentMessage
equipment_among fs = filter_map equipment_of_frame fs

-- some message told a date of the station, or its antenna
abbrev pub is_mentioned : StationDates → Equipment → Bool
is_mentioned d e = has_date d || is_told e

-- formula
-- the lines of what such messages told of a station
abbrev pub told_lines : StationDates → Equipment → List ℕ
told_lines d e = date_lines d ++ equipment_lines e
