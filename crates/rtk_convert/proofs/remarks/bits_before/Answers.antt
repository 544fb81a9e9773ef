use Rattle.std.proofs.Common.{◌≡◌, ◌-◌, ◌^◌, ◌<◌, ◌≤◌, ℕ, suc, subst, arith}
use Rattle.std.proofs.lemmas.Nat.{leading_top}
use lib.Count.{count_leading_zeros}
use Rattle.rtk_convert.proofs.remarks.bits_before.Goals as goal

pub returns : goal.returns
returns c =
    let mask = c.args.mask in
    let top = leading_top 64 mask (omega (arith, c.requires)) (omega arith) in
    let from : top.0 ≡ 63 - count_leading_zeros 64 mask = omega (arith, top.1) in
    let below : suc top.0 ≡ 64 - count_leading_zeros 64 mask = omega (arith, top.1) in
    record {
      from = subst (λ (v : ℕ). 2 ^ v ≤ mask) from top.2;
      below = subst (λ (v : ℕ). mask < 2 ^ v) below top.3;
      inside = omega (arith, top.1);
    }
