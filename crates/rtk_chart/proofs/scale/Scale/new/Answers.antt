use Rattle.std.proofs.Common.{◌≡◌, ◌<◌, ◌+◌, ◌-◌, ◌∙◌, ◌*◌, ◌/◌, ℕ, ap, arith}
use Rattle.rtk_chart.proofs.ScaleLemmas.{mul-pos, bin-bound, bins-few}
use Rattle.rtk_chart.proofs.scale.Scale.new.Goals as goal

pub returns-clause-good : goal.returns-clause-good
returns-clause-good c =
    let unit = c.unit_of-unit.result in
    let span = c.saturating_sub-span.result in
    let allowed = c.args.allowed in
    let half : ℕ = (unit - 1) / 2 in
    let reach : ℕ = span + half in
    let length : ℕ = (reach / (allowed * unit) + 1) * unit in
    let positive = c.unit_of-unit.ensures.positive in
    let bound = c.unit_of-unit.ensures.bound in
    let first_is = c.ms-2.ensures.value in
    let first_bound = c.ms-2.ensures.bound in
    let last_is = c.ms.ensures.value in
    let last_bound = c.ms.ensures.bound in
    let some : 0 < allowed = omega (arith, c.requires.0) in
    let most = bin-bound reach unit allowed some in
    let least = mul-pos (reach / (allowed * unit) + 1) unit (omega arith) positive in
    let is : span ≡ c.args.last - c.args.first =
    c.saturating_sub-span.ensures ∙ ap (λ (n : ℕ). n - c.ms-2.result) last_is ∙ ap (λ (n : ℕ). c.args.last - n) first_is in
    let few = bins-few reach unit allowed some positive in
    record {
      first = omega (arith, first_is, first_bound);
      last = omega (arith, last_is, last_bound);
      unit = positive;
      unit_bound = bound;
      bin = least;
      bin_bound = omega (arith, most, bound, last_is, last_bound, is);
      bins = ap (λ (n : ℕ). (n + half) / length + 1) is;
      few = omega (arith, few, c.requires.1);
    }
