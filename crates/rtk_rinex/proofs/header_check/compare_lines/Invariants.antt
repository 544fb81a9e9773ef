use Rattle.std.proofs.Common.{◌+◌, ◌≤◌, length}
use Rattle.rtk_rinex.specs.Steps.HeaderRead.{BeginAlike}
use Rattle.rtk_rinex.proofs.header_check.compare_lines.Given as goal

abbrev pub invariant-loop-end : goal.invariant-loop-end
invariant-loop-end l = BeginAlike l.lines l.text l.written l.rest l.wanted × (l.lines + length l.wanted ≤ length l.written)

abbrev pub decreases-loop-end : goal.decreases-loop-end
decreases-loop-end l = length l.wanted
