use Rattle.std.proofs.Common.{map, take}
use Rattle.rtk_message.specs.Fields.{FieldsFit}
use Rattle.rtk_message.proofs.column.column_fits.Given as goal

abbrev pub invariant-loop-value : goal.invariant-loop-value
invariant-loop-value g l = FieldsFit (map (g.T.FieldValue.field l.width) (take l.value-index l.column))
