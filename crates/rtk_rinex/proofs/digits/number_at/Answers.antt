use Rattle.std.proofs.Common.{arith, length}
use Rattle.rtk_rinex.proofs.DigitsLemmas.{pow-le}
use Rattle.rtk_rinex.proofs.digits.number_at.Goals as goal

pub returns-clause-bound : goal.returns-clause-bound
returns-clause-bound c = omega (arith, c.number_of_digits.ensures.width, pow-le (length c.columns_at.result.now) c.args.width c.columns_at.ensures.len)
