use Rattle.std.proofs.Common.{◌≡◌, drop}
use Rattle.rtk_captures.specs.CaptureEquipment.{with_captures}
use Rattle.rtk_captures.proofs.capture_equipment.take_captures.Given as goal

abbrev pub invariant-loop-capture : goal.invariant-loop-capture
invariant-loop-capture l =
    with_captures l.part l.surveys l.station l.equipment (drop l.capture-index l.ordered) ≡ with_captures l.part l.surveys l.station l.fn.equipment l.ordered
