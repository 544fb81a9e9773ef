use Rattle.std.proofs.Common.{◌≡◌, ℕ, ap, ◌∙◌, arith}
use Rattle.std.specs.List.{range_with_len, sum_by}
use Rattle.rtk_chart.specs.SvgPicture.{codes_before, lines_before}
use Rattle.rtk_chart.proofs.ListLemmas.{sum-more}
use Rattle.rtk_chart.proofs.spacing.lines_before.Goals as goal

pub loop-before-preserved : goal.loop-before-preserved
loop-before-preserved c =
    let i = c.loop-before.invariant in
    let more = sum-more (λ (before : ℕ). codes_before c.args.bins.now before c.args.listed) c.loop-before.before in
    let few = c.codes_before-lines.ensures.bound in
    let is = c.codes_before-lines.ensures.value in
    record { few = omega (arith, i.few, few); sum = omega (arith, i.sum, more, is) }

pub returns : goal.returns
unfolding lines_before
returns c =
    let end : c.loop-before.before ≡ c.args.place = omega (arith, c.loop-before.auto.before-end, c.loop-before-test.false) in
    c.loop-before.invariant.sum ∙ ap (λ (k : ℕ). sum_by (λ (before : ℕ). codes_before c.args.bins.now before c.args.listed) (range_with_len 0 k)) end
