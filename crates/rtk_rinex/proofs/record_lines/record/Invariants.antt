use Rattle.std.proofs.Common.{take}
use Rattle.rtk_rinex.specs.RecordLines.{HoldsLines}
use Rattle.rtk_rinex.proofs.record_lines.record.Given as goal

abbrev pub invariant-loop-row : goal.invariant-loop-row
invariant-loop-row l = HoldsLines l.lines (take l.row-index l.table.rows)
