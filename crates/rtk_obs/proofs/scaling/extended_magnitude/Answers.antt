use Rattle.std.proofs.Common.{◌≡◌, ◌*◌, ◌/◌, ◌∙◌, ap, ℕ, arith}
use Rattle.rtk_obs.proofs.RoundingLemmas.{four-times}
use Rattle.rtk_obs.proofs.scaling.extended_magnitude.Goals as goal

pub returns-clause-value : goal.returns-clause-value
returns-clause-value c =
    let whole : c.args.factor ≡ 4 * (c.args.factor / 4) = omega (arith, c.requires.whole) in
    let product : c.args.n * c.args.factor ≡ 4 * (c.args.n * (c.args.factor / 4)) = ap (λ (k : ℕ). c.args.n * k) whole ∙ four-times c.args.n (c.args.factor / 4) in
    omega (arith, product, c.time_magnitude.ensures.value)
