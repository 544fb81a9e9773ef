use Rattle.std.proofs.Common.{◌≡◌, map, take}
use Rattle.rtk_captures.specs.CaptureEquipment.{part_told}
use Rattle.rtk_captures.proofs.capture_equipment.moments_told.Given as goal

abbrev pub invariant-loop-survey : goal.invariant-loop-survey
invariant-loop-survey l = l.all.items ≡ map (part_told l.part l.station l.near) (take l.survey-index l.surveys)
