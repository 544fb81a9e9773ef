-- The columns of a 1074, each by itself.
use Rattle.rtk_message.specs.Fields.{FieldsFit}
use Rattle.rtk_message.specs.FieldColumns.{numbers, integers}
use Rattle.rtk_message.specs.Msm1074.{signal_count}
use Rattle.rtk_message.specs.declared.msm1074.Msm1074.{Msm1074}

-- each value of the columns fits its width; DF420 is a single bit, which always fits
pub record EachFits (m : Msm1074) : Type 0 where
  pub cell_mask : FieldsFit (numbers (signal_count m.header) m.cell_mask)
  pub rough_ms : FieldsFit (numbers 8 m.rough_ms)
  pub rough_fraction : FieldsFit (numbers 10 m.rough_fraction)
  pub fine_range : FieldsFit (integers 15 m.fine_range)
  pub fine_phase : FieldsFit (integers 22 m.fine_phase)
  pub lock_indicator : FieldsFit (numbers 4 m.lock_indicator)
  pub cnr : FieldsFit (numbers 6 m.cnr)
