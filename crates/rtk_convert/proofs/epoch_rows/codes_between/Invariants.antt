use Rattle.std.proofs.Common.{◌≤◌, map, slice_range}
use Rattle.rtk_convert.specs.Steps.ShownCells.{IsSetOfCodes}
use Rattle.rtk_convert.proofs.epoch_rows.codes_between.Given as goal

abbrev pub invariant-loop-at : goal.invariant-loop-at
invariant-loop-at g l = record {
  from : l.begin ≤ l.at;
  codes : IsSetOfCodes l.codes (slice_range (map g.E.FileEntry.signal_of l.entries) l.begin l.at) l.satellite;
}
