use Rattle.std.proofs.Common.{◌-◌, ◌≤◌, length}
use Rattle.example_cells.proofs.print_frames.Given as goal

abbrev pub invariant-loop-frame : goal.invariant-loop-frame
invariant-loop-frame l = l.frames.from ≤ length l.frames.text

abbrev pub decreases-loop-frame : goal.decreases-loop-frame
decreases-loop-frame l = length l.frames.text - l.frames.from
