use Rattle.std.proofs.Common.{◌-◌, ◌*◌, drop}
use Rattle.rtk_rinex.specs.Record.{code_width}
use Rattle.rtk_rinex.specs.Steps.MixedReadRecords.{AreMixedCells}
use Rattle.rtk_rinex.proofs.mixed_satellite_line_check.are_mixed_cells.Given as goal

abbrev pub invariant-loop-k : goal.invariant-loop-k
invariant-loop-k l = record {
  rest : AreMixedCells l.doppler l.phases l.code_count l.columns → AreMixedCells l.doppler l.phases (l.code_count - l.k) (drop (code_width l.doppler * l.k) l.columns);
  whole : AreMixedCells l.doppler l.phases (l.code_count - l.k) (drop (code_width l.doppler * l.k) l.columns) → AreMixedCells l.doppler l.phases l.code_count l.columns;
}
