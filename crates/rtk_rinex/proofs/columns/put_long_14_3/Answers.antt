use Rattle.std.proofs.Common.{◌∙◌, arith}
use Rattle.std.proofs.lemmas.Int.{ints}
use Rattle.rtk_rinex.proofs.ColumnsLemmas.{fixed-long}
use Rattle.rtk_rinex.proofs.columns.put_long_14_3.Goals as goal

pub returns : goal.returns
returns c = c.put_magnitude_14_3.ensures ∙ fixed-long c.args.value _ (omega (arith, ints)) (omega (arith, ints))
