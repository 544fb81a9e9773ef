use Rattle.std.proofs.Common.{◌≡◌, ◌+◌, ◌*◌, ◌++◌, List, Bool, length, map, take}
use Rattle.rtk_message.specs.Fields.{TakesAll}
use Rattle.rtk_message.proofs.column.set_fields.Given as goal

abbrev pub invariant-loop-place : goal.invariant-loop-place
invariant-loop-place g l = record {
  fields : (rest from : List Bool) → TakesAll (map (g.T.FieldValue.field l.width) (take l.at l.fn.column)) from (l.fn.word ++ rest) → TakesAll (map (g.T.FieldValue.field l.width) (take (l.at + l.place) l.column)) from (l.word ++ rest);
  left : length l.fn.word ≡ l.width * l.place + length l.word;
  count : length l.column ≡ length l.fn.column;
}
