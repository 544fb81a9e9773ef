use Rattle.std.proofs.Common.{◌≡◌, ◌-◌, ◌*◌, ◌++◌, length, drop, flat_map}
use Rattle.std.specs.Prelude.{All}
use Rattle.rtk_rinex.specs.Columns.{left}
use Rattle.rtk_rinex.specs.Record.{code_text, code_width}
use Rattle.rtk_rinex.specs.Table.{IsObservedIn}
use Rattle.rtk_rinex.specs.Steps.MixedReadRecords.{AreCodes}
use Rattle.rtk_rinex.proofs.satellite_line_read.read_cells_in.Given as goal

abbrev pub invariant-loop-k : goal.invariant-loop-k
invariant-loop-k l = record {
  observed : All (IsObservedIn l.doppler) l.observed.items;
  count : length l.observed.items ≡ l.k;
  text : left (code_width l.doppler * l.code_count) l.columns ≡ flat_map (code_text l.doppler) l.observed.items ++ left (code_width l.doppler * (l.code_count - l.k)) (drop (code_width l.doppler * l.k) l.columns);
  rest : AreCodes l.doppler l.code_count l.columns → AreCodes l.doppler (l.code_count - l.k) (drop (code_width l.doppler * l.k) l.columns);
}
