use Rattle.std.proofs.Common.{◌≡◌, ◌-◌}
use Rattle.std.specs.Prelude.{flat_map}
use Rattle.std.specs.List.{range_with_len}
use Rattle.rtk_survey.specs.NextCommand.{slot_item}
use Rattle.rtk_survey.specs.Steps.OtherSystems.{slots_held, fields_held}
use Rattle.rtk_survey.proofs.next_command.slot_items.Given as goal

abbrev pub invariant-loop-slot : goal.invariant-loop-slot
invariant-loop-slot l = l.items.items ≡ flat_map (slot_item (slots_held l.legacy l.station) (fields_held l.station)) (range_with_len 1 (l.slot - 1))
