use Rattle.std.proofs.Common.{refl, arith}
use Rattle.rtk_frame.proofs.Parts.{product_step, product_end}
use Rattle.rtk_frame.proofs.checksum.product.Goals as goal

pub loop-place-preserved : goal.loop-place-preserved
loop-place-preserved c =
    let step = product_step c.args.left c.args.right c.loop-place.place c.loop-place.sum _ (omega arith) (omega arith) c.loop-place.invariant.small refl c.loop-place.invariant.sum in
    record { sum = step.0; small = step.1 }

pub returns-clause-rest : goal.returns-clause-rest
returns-clause-rest c = λ n w. product_end c.args.left c.args.right c.loop-place.place c.loop-place.sum n (omega arith) w c.loop-place.invariant.sum
