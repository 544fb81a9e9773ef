use Rattle.std.proofs.Common.{map, take}
use Rattle.rtk_message.specs.Steps.FieldSteps.{PutsAll}
use Rattle.rtk_message.proofs.column.put_column.Given as goal

abbrev pub invariant-loop-value : goal.invariant-loop-value
invariant-loop-value g l = PutsAll (map (g.T.FieldValue.field l.width) (take l.value-index l.column)) l.fn.writer l.writer
