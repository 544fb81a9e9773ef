use Rattle.std.proofs.Common.{◌≡◌, ◌++◌, drop}
use Rattle.rtk_captures.specs.CaptureNames.{lines_by}
use Rattle.rtk_plan.specs.LeftOut.{refused_at}
use Rattle.rtk_plan.proofs.left_out.put_all_refused.Given as goal

-- the lines so far and those of the captures that are left are those of all
abbrev pub invariant-loop-at : goal.invariant-loop-at
invariant-loop-at l =
    l.lines.items ++ lines_by (refused_at l.captures.names.now l.taken) l.at (drop l.at l.captures.surveys.now) ≡ l.fn.lines.items ++ lines_by (refused_at l.captures.names.now l.taken) 0 l.captures.surveys.now
