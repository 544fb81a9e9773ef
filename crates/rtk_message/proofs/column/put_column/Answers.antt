use Rattle.std.proofs.Common.{length, ap, arith}
use Rattle.rtk_message.proofs.ColumnLemmas.{put_more, fit_one}
use Rattle.rtk_message.proofs.column.put_column.Goals as goal

pub put-requires-clause-fits : goal.put-requires-clause-fits
put-requires-clause-fits g c =
    rw (c.value-item.is, c.as_slice-value-items.ensures.value) (fit_one (g.T.FieldValue.field c.args.width) c.args.column.now c.loop-value.value-index c.value-item.result (omega (arith, c.loop-value-test.true, ap length c.as_slice-value-items.ensures.value)) c.requires.fit)

pub loop-value-preserved : goal.loop-value-preserved
loop-value-preserved g c =
    put_more (g.T.FieldValue.field c.args.width) c.args.column.now c.loop-value.value-index c.value-item.result c.args.writer.now c.loop-value.writer c.put.new.writer
    (omega (arith, c.loop-value-test.true, ap length c.as_slice-value-items.ensures.value)) c.loop-value.invariant (rw (← c.as_slice-value-items.ensures.value, ← c.value-item.is) c.in_ok-put.ensures)
