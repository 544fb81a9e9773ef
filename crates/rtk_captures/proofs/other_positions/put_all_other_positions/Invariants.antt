use Rattle.std.proofs.Common.{◌≡◌, ◌++◌, drop}
use Rattle.rtk_captures.specs.CaptureNames.{capture_name, lines_by}
use Rattle.rtk_captures.specs.OtherPositions.{other_position_line}
use Rattle.rtk_captures.proofs.other_positions.put_all_other_positions.Given as goal

-- the lines so far and those of the captures that are left are those of all
abbrev pub invariant-loop-at : goal.invariant-loop-at
invariant-loop-at l =
    l.lines.items ++ lines_by (λ at c. other_position_line l.first c (capture_name l.captures.names.now at)) l.at (drop l.at (l.told)) ≡ l.fn.lines.items ++ lines_by (λ at c. other_position_line l.first c (capture_name l.captures.names.now at)) 0 (l.told)
