use Rattle.std.proofs.Common.{◌-◌, refl, arith, add-one}
use lib.Count.{count_leading_zeros}
use Rattle.rtk_obs.proofs.MaskLemmas.{top-bit}
use Rattle.rtk_obs.proofs.mask.top_bit.Goals as goal

pub returns : goal.returns
returns c =
    let bit = top-bit 64 c.args.mask (count_leading_zeros 64 c.args.mask) (63 - count_leading_zeros 64 c.args.mask) c.requires (omega arith) (omega arith) refl refl in
    record { from = bit.1; below = rw add-one bit.2; inside = omega arith }
