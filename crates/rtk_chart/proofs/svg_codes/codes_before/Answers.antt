use Rattle.std.proofs.Common.{◌≡◌, ℕ, Bool, cond, count_by, sym, ap, ◌∙◌, arith}
use Rattle.std.specs.List.{range_with_len}
use Rattle.rtk_chart.specs.Signs.{has_code}
use Rattle.rtk_chart.specs.SvgPicture.{codes_before}
use Rattle.rtk_chart.proofs.ListLemmas.{count-more, count-bound}
use Rattle.rtk_chart.proofs.svg_codes.codes_before.Goals as goal
use Rattle.rtk_chart.proofs.svg_codes.codes_before.Goals.{then-has_code, else-has_code}

-- 1 for a test that holds
abbrev once : Bool → ℕ
once b = cond b 1 0

pub overflow_add-count : goal.overflow_add-count
overflow_add-count c =
    let most = count-bound (has_code c.args.bins.now c.args.place) c.loop-before.before in
    let is = c.loop-before.invariant in
    let few = c.requires.at in
    let inside = c.loop-before-test.true in
    omega (arith, most, is, few, inside)

pub loop-before-preserved : goal.loop-before-preserved
loop-before-preserved c =
    let more = count-more (has_code c.args.bins.now c.args.place) c.loop-before.before in
    let is = c.loop-before.invariant in
    elim c.if-has_code.branch [
      | then-has_code w ↦
          let one : once (has_code c.args.bins.now c.args.place c.loop-before.before) ≡ 1 = ap once (sym c.has_code.ensures ∙ w.if-has_code.true) in
          let now = w.count-is in
          omega (arith, more, is, one, now)
      | else-has_code w ↦
          let none : once (has_code c.args.bins.now c.args.place c.loop-before.before) ≡ 0 = ap once (sym c.has_code.ensures ∙ w.if-has_code.false) in
          let now = w.count-is in
          omega (arith, more, is, none, now)
    ]

pub returns-clause-value : goal.returns-clause-value
unfolding codes_before
returns-clause-value c =
    let end : c.loop-before.before ≡ c.args.at = omega (arith, c.loop-before.auto.before-end, c.loop-before-test.false) in
    c.loop-before.invariant ∙ ap (λ (k : ℕ). count_by (has_code c.args.bins.now c.args.place) (range_with_len 0 k)) end

pub returns-clause-bound : goal.returns-clause-bound
returns-clause-bound c =
    let most = count-bound (has_code c.args.bins.now c.args.place) c.loop-before.before in
    let is = c.loop-before.invariant in
    let few = c.requires.at in
    let end = c.loop-before.auto.before-end in
    omega (arith, most, is, few, end)
