use Rattle.std.proofs.Common.{◌≡◌, ◌+◌, ℕ, ap, ◌∙◌, arith}
use Rattle.std.specs.List.{range_with_len, sum_by}
use Rattle.rtk_chart.specs.SvgPicture.{height_if_drawn, band_top}
use Rattle.rtk_chart.proofs.ListLemmas.{sum-more}
use Rattle.rtk_chart.proofs.svg_bands.band_top.Goals as goal

pub loop-before-preserved : goal.loop-before-preserved
loop-before-preserved c =
    let i = c.loop-before.invariant in
    let more = sum-more (height_if_drawn c.args.spacing c.args.bins.now c.args.listed) c.loop-before.before in
    let high = c.height_if_drawn-top.ensures.bound in
    let is = c.height_if_drawn-top.ensures.value in
    record { few = omega (arith, i.few, high); sum = omega (arith, i.sum, more, is) }

pub returns-clause-value : goal.returns-clause-value
unfolding band_top
returns-clause-value c =
    let end : c.loop-before.before ≡ c.args.place = omega (arith, c.loop-before.auto.before-end, c.loop-before-test.false) in
    c.loop-before.invariant.sum ∙ ap (λ (k : ℕ). 140 + sum_by (height_if_drawn c.args.spacing c.args.bins.now c.args.listed) (range_with_len 0 k)) end

pub returns-clause-bound : goal.returns-clause-bound
returns-clause-bound c = omega (arith, c.loop-before.invariant.few, c.loop-before.auto.before-end, c.requires.place)
