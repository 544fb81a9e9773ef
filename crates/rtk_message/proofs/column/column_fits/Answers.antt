use Rattle.std.proofs.Common.{length, ap, arith, rules}
use Rattle.rtk_message.proofs.ColumnLemmas.{fit_one, fit_more}
use Rattle.rtk_message.proofs.column.column_fits.Goals as goal

pub returns-then-not-fits : goal.returns-then-not-fits
returns-then-not-fits g c = (
  λ h. absurd (search rules),
  λ p.
      let one = fit_one (g.T.FieldValue.field c.args.width) c.args.column.now c.loop-value.value-index c.value-item.result (omega (arith, c.loop-value-test.true, ap length c.as_slice-value-items.ensures.value)) p in
      rw (← c.if-not-fits.true) (c.fits.ensures.1 (rw (c.value-item.is, c.as_slice-value-items.ensures.value) one)),
)

pub loop-value-preserved : goal.loop-value-preserved
loop-value-preserved g c =
    fit_more (g.T.FieldValue.field c.args.width) c.args.column.now c.loop-value.value-index c.value-item.result
    (omega (arith, c.loop-value-test.true, ap length c.as_slice-value-items.ensures.value)) c.loop-value.invariant
    (rw (← c.as_slice-value-items.ensures.value, ← c.value-item.is) (c.fits.ensures.0 (search rules)))
