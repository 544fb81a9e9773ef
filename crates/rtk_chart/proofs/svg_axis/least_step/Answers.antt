use Rattle.std.proofs.Common.{arith}
use Rattle.rtk_chart.proofs.SvgLemmas.{step-bound}
use Rattle.rtk_chart.proofs.svg_axis.least_step.Goals as goal

pub overflow_mul-result : goal.overflow_mul-result
overflow_mul-result c =
    let h = (step-bound c.args.bins c.args.bin_ms c.requires.bins c.requires.some c.requires.bound).0 in
    omega (arith, h)

pub returns-clause-positive : goal.returns-clause-positive
returns-clause-positive c = (step-bound c.args.bins c.args.bin_ms c.requires.bins c.requires.some c.requires.bound).1

pub returns-clause-few : goal.returns-clause-few
returns-clause-few c = (step-bound c.args.bins c.args.bin_ms c.requires.bins c.requires.some c.requires.bound).0
