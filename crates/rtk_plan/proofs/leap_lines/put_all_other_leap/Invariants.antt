use Rattle.std.proofs.Common.{◌≡◌, ◌++◌, drop}
use Rattle.rtk_captures.specs.CaptureNames.{lines_by}
use Rattle.rtk_plan.specs.LeapLines.{other_leap_at}
use Rattle.rtk_plan.proofs.leap_lines.put_all_other_leap.Given as goal

-- the lines so far and those of the captures that are left are those of all
abbrev pub invariant-loop-at : goal.invariant-loop-at
invariant-loop-at l =
    l.lines.items ++ lines_by (other_leap_at l.captures.names.now l.station l.dating) l.at (drop l.at l.captures.surveys.now) ≡ l.fn.lines.items ++ lines_by (other_leap_at l.captures.names.now l.station l.dating) 0 l.captures.surveys.now
