use Rattle.std.proofs.Common.{◌≡◌, ◌++◌, drop}
use Rattle.rtk_captures.specs.CaptureNames.{capture_name, lines_by}
use Rattle.rtk_plan.specs.OtherEquipment.{other_in_capture}
use Rattle.rtk_plan.proofs.other_equipment.put_all_other.Given as goal

-- the lines so far and those of the captures that are left are those of all
abbrev pub invariant-loop-at : goal.invariant-loop-at
invariant-loop-at l =
    l.lines.items ++ lines_by (λ at s. other_in_capture l.station l.counts s (capture_name l.captures.names.now at)) l.at (drop l.at l.captures.surveys.now)
    ≡ l.fn.lines.items ++ lines_by (λ at s. other_in_capture l.station l.counts s (capture_name l.captures.names.now at)) 0 l.captures.surveys.now
