use Rattle.std.proofs.Common.{◌≡◌, ◌++◌, drop}
use Rattle.rtk_captures.specs.CaptureNames.{capture_name, lines_by}
use Rattle.rtk_plan.specs.ClockNotes.{clock_notes_in}
use Rattle.rtk_plan.specs.ClockReach.{clocks_taken}
use Rattle.rtk_plan.proofs.clock_notes.put_all_clock_notes.Given as goal

-- the lines so far and those of the captures that are left are those of all
abbrev pub invariant-loop-at : goal.invariant-loop-at
invariant-loop-at l =
    l.lines.items
    ++ lines_by (λ at s. clock_notes_in l.plan.setup.station l.plan.span.source (clocks_taken l.plan.setup) l.leaves_1012 s (capture_name l.captures.names.now at)) l.at (drop l.at (l.captures.surveys.now))
    ≡ l.fn.lines.items
    ++ lines_by (λ at s. clock_notes_in l.plan.setup.station l.plan.span.source (clocks_taken l.plan.setup) l.leaves_1012 s (capture_name l.captures.names.now at)) 0 (l.captures.surveys.now)
