use Rattle.std.proofs.Common.{◌≡◌, ℕ, ◌-◌, ◌+◌, ◌≤◌, ◌<◌, min, sym, ap, ◌∙◌, arith}
use Rattle.std.specs.List.{list_any, range_with_len}
use Rattle.rtk_chart.specs.Ticks.{label_length}
use Rattle.rtk_chart.specs.TextPicture.{has_label}
use Rattle.rtk_chart.proofs.ListLemmas.{any-in-range, none-more}
use Rattle.rtk_chart.proofs.text_time.is_covered.Goals as goal

pub returns-then-has_label : goal.returns-then-has_label
returns-then-has_label c =
    let longest : ℕ = label_length c.args.step - 1 in
    let from : c.args.bin - longest ≤ c.loop-before.before = omega (arith, c.loop-before.auto.before, c.saturating_sub-before.ensures) in
    let to : c.loop-before.before < (c.args.bin - longest) + min c.args.bin longest = omega (arith, c.loop-before-test.true) in
    sym (any-in-range (has_label c.args.scale.now c.args.width c.args.step) (c.args.bin - longest) (min c.args.bin longest) c.loop-before.before from to (sym c.has_label.ensures ∙ c.if-has_label.true))

pub loop-before-preserved : goal.loop-before-preserved
loop-before-preserved c =
    let longest : ℕ = c.label_length-longest.result - 1 in
    let from : c.args.bin - longest ≤ c.loop-before.before = omega (arith, c.loop-before.auto.before, c.saturating_sub-before.ensures) in
    let at : c.loop-before.before ≡ (c.args.bin - longest) + (c.loop-before.before - (c.args.bin - longest)) = omega arith in
    let next : (c.loop-before.before + 1) - (c.args.bin - longest) ≡ (c.loop-before.before - (c.args.bin - longest)) + 1 = omega arith in
    ap (λ k. list_any (has_label c.args.scale.now c.args.width c.args.step) (range_with_len (c.args.bin - longest) k)) next
    ∙ none-more (has_label c.args.scale.now c.args.width c.args.step) (c.args.bin - longest) (c.loop-before.before - (c.args.bin - longest)) c.loop-before.before at c.loop-before.invariant (sym c.has_label.ensures ∙ c.if-has_label.false)
