use Rattle.std.proofs.Common.{ℕ, ◌∙◌, ap, sym, arith}
use Rattle.rtk_frame.specs.Steps.Product.{after_zeros}
use Rattle.rtk_frame.proofs.Parts.{power_at, last_part}
use Rattle.rtk_frame.proofs.checksum.checksum_of_last.Goals as goal

pub product-requires : goal.product-requires
product-requires c = let p = power_at c.args.count (omega arith) in (omega arith, p.small)

pub returns : goal.returns
returns c = λ front last f w l.
    let p = power_at c.args.count (omega arith) in
    let e = c.reduced.ensures.rest ∙ c.product.ensures.rest c.args.count p ∙ ap (λ (n : ℕ). after_zeros n c.args.before) (sym l) in
    last_part front last c.args.whole c.args.before c.reduced.result f w c.reduced.ensures.within e
