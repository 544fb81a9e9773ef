use Rattle.std.proofs.Common.{◌≡◌, ℕ, Bool, cond, count_by, sym, ap, ◌∙◌, arith}
use Rattle.std.specs.List.{range_with_len}
use Rattle.rtk_chart.specs.SvgPicture.{is_lacked}
use Rattle.rtk_chart.specs.SvgPicture.{lacked_before}
use Rattle.rtk_chart.proofs.ListLemmas.{count-more, count-bound}
use Rattle.rtk_chart.proofs.svg_never.lacked_before.Goals as goal
use Rattle.rtk_chart.proofs.svg_never.lacked_before.Goals.{then-is_lacked, else-is_lacked}

-- 1 for a test that holds
abbrev once : Bool → ℕ
once b = cond b 1 0

pub overflow_add-count : goal.overflow_add-count
overflow_add-count c =
    let most = count-bound (is_lacked c.args.bins.now) c.loop-before.before in
    let is = c.loop-before.invariant in
    let few = c.requires in
    let inside = c.loop-before-test.true in
    omega (arith, most, is, few, inside)

pub loop-before-preserved : goal.loop-before-preserved
loop-before-preserved c =
    let more = count-more (is_lacked c.args.bins.now) c.loop-before.before in
    let is = c.loop-before.invariant in
    elim c.if-is_lacked.branch [
      | then-is_lacked w ↦
          let one : once (is_lacked c.args.bins.now c.loop-before.before) ≡ 1 = ap once (sym c.is_lacked.ensures ∙ w.if-is_lacked.true) in
          let now = w.count-is in
          omega (arith, more, is, one, now)
      | else-is_lacked w ↦
          let none : once (is_lacked c.args.bins.now c.loop-before.before) ≡ 0 = ap once (sym c.is_lacked.ensures ∙ w.if-is_lacked.false) in
          let now = w.count-is in
          omega (arith, more, is, none, now)
    ]

pub returns-clause-value : goal.returns-clause-value
unfolding lacked_before
returns-clause-value c =
    let end : c.loop-before.before ≡ c.args.at = omega (arith, c.loop-before.auto.before-end, c.loop-before-test.false) in
    c.loop-before.invariant ∙ ap (λ (k : ℕ). count_by (is_lacked c.args.bins.now) (range_with_len 0 k)) end

pub returns-clause-bound : goal.returns-clause-bound
returns-clause-bound c =
    let most = count-bound (is_lacked c.args.bins.now) c.loop-before.before in
    let is = c.loop-before.invariant in
    let few = c.requires in
    let end = c.loop-before.auto.before-end in
    omega (arith, most, is, few, end)
