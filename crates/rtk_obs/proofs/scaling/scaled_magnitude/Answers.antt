use Rattle.std.proofs.Common.{arith, sym}
use Rattle.rtk_obs.proofs.RoundingLemmas.{rounded-parts}
use Rattle.rtk_obs.proofs.scaling.scaled_magnitude.Goals as goal

pub overflow_mul-whole : goal.overflow_mul-whole
overflow_mul-whole c =
    rw (c.from-factor.ensures, c.from-divisor.ensures)
    (omega (arith, rounded-parts c.args.n c.args.factor c.args.divisor c.requires.positive, c.requires.fits))

pub overflow_add-result-2 : goal.overflow_add-result-2
overflow_add-result-2 c =
    rw (c.from-factor.ensures, c.from-divisor.ensures)
    (omega (arith, rounded-parts c.args.n c.args.factor c.args.divisor c.requires.positive, c.requires.fits))

pub returns : goal.returns
returns c =
    rw (c.from-factor.ensures, c.from-divisor.ensures)
    (sym (rounded-parts c.args.n c.args.factor c.args.divisor c.requires.positive))
