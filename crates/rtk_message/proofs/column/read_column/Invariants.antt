use Rattle.std.proofs.Common.{◌≡◌, ◌≤◌, ◌+◌, ◌-◌, ◌*◌, length, map, take}
use Rattle.rtk_message.specs.Fields.{TakesAll}
use Rattle.rtk_message.proofs.column.read_column.Given as goal

abbrev pub invariant-loop-at : goal.invariant-loop-at
invariant-loop-at g l = record {
  fields : TakesAll (map (g.T.FieldValue.field l.width) (take l.at l.column)) l.fn.reader l.reader;
  left : length l.fn.reader ≡ l.width * l.at + length l.reader;
  some : l.at ≤ l.count;
  count : length l.column ≡ l.count;
}

abbrev pub decreases-loop-at : goal.decreases-loop-at
decreases-loop-at g l = l.count - l.at
