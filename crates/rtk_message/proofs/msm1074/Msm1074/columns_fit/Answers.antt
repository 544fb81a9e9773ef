use Rattle.std.proofs.Common.{rules}
use Rattle.rtk_message.proofs.msm1074.Msm1074.columns_fit.Goals as goal

pub returns-then-column_fits : goal.returns-then-column_fits
returns-then-column_fits c = (
  λ h. record {
    cell_mask = rw (← c.signal_count.ensures.value) (c.column_fits.ensures.0 (search rules));
    rough_ms = c.column_fits-2.ensures.0 (search rules);
    rough_fraction = c.column_fits-else-not-column_fits-2.ensures.0 (search rules);
    fine_range = c.column_fits-3.ensures.0 (search rules);
    fine_phase = c.column_fits-else-not-column_fits-4.ensures.0 (search rules);
    lock_indicator = c.column_fits-4.ensures.0 (search rules);
    cnr = c.column_fits-then-column_fits.ensures.0 h;
  },
  λ each. c.column_fits-then-column_fits.ensures.1 each.cnr,
)
