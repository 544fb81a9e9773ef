use Rattle.std.proofs.Common.{◌≡◌, ◌++◌, List}
use Rattle.std.specs.Prelude.{flat_map}
use Rattle.std.specs.List.{range_with_len}
use Rattle.rtk_message.specs.declared.any_message.AnyMessage.{AnyMessage}
use Rattle.rtk_survey.specs.Contents.{AreStations}
use Rattle.rtk_survey.specs.EquipmentHistory.{equipment_of}
use Rattle.rtk_survey.specs.FrameDates.{station_dates}
use Rattle.rtk_survey.specs.ReadFrames.{messages_from}
use Rattle.rtk_survey.specs.Summary.{lines_if_any}
use Rattle.rtk_survey.specs.declared.date_message.DateMessage.{DateMessage}
use Rattle.rtk_survey.specs.declared.equipment_message.EquipmentMessage.{EquipmentMessage}
use Rattle.rtk_survey.proofs.lines.put_stations.Given as goal

abbrev pub invariant-loop-number : goal.invariant-loop-number
invariant-loop-number l =
    (ms : List AnyMessage) (ds : List DateMessage) (es : List EquipmentMessage) → AreStations ms ds es l.stations
    → l.lines.items ≡ l.fn.lines.items ++ flat_map (λ s. lines_if_any l.name s (messages_from s ms) (station_dates s ds) (equipment_of s es)) (range_with_len 0 l.number-counter)
