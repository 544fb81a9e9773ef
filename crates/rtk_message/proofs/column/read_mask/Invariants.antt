use Rattle.std.proofs.Common.{◌≡◌, length, take, sum_by, count_ones}
use Rattle.rtk_message.specs.Fields.{TakesAll}
use Rattle.rtk_message.specs.FieldColumns.{numbers}
use Rattle.rtk_message.proofs.column.read_mask.Given as goal

abbrev pub invariant-loop-place : goal.invariant-loop-place
invariant-loop-place l = record {
  fields : TakesAll (numbers l.signals (take l.place l.mask)) l.fn.reader l.fn.reader;
  cells : sum_by count_ones (take l.place l.mask) ≡ 0;
  count : length l.mask ≡ l.satellites;
}
