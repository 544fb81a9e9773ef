use Rattle.std.proofs.Common.{◌≡◌, ◌++◌, take}
use Rattle.std.specs.Prelude.{flat_map}
use Rattle.rtk_survey.specs.EquipmentText.{shown_byte}
use Rattle.rtk_survey.proofs.equipment_lines.put_shown.Given as goal

abbrev pub invariant-loop-byte : goal.invariant-loop-byte
invariant-loop-byte l = l.lines.items ≡ l.fn.lines.items ++ flat_map shown_byte (take l.byte-index l.bytes)
