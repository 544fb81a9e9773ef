use Rattle.std.proofs.Common.{◌≡◌, ℕ, Bool, cond, count_by, sym, ap, ◌∙◌, arith}
use Rattle.std.specs.List.{range_with_len}
use Rattle.rtk_chart.specs.Signs.{is_never}
use Rattle.rtk_chart.specs.TextPicture.{never_before}
use Rattle.rtk_chart.proofs.ListLemmas.{count-more, count-bound}
use Rattle.rtk_chart.proofs.never.never_before.Goals as goal
use Rattle.rtk_chart.proofs.never.never_before.Goals.{then-is_never, else-is_never}

-- 1 for a test that holds
abbrev once : Bool → ℕ
once b = cond b 1 0

pub overflow_add-count : goal.overflow_add-count
overflow_add-count c =
    let most = count-bound (is_never c.args.bins.now c.args.at) c.loop-before.before in
    let is = c.loop-before.invariant in
    let few = c.requires in
    let inside = c.loop-before-test.true in
    omega (arith, most, is, few, inside)

pub loop-before-preserved : goal.loop-before-preserved
loop-before-preserved c =
    let more = count-more (is_never c.args.bins.now c.args.at) c.loop-before.before in
    let is = c.loop-before.invariant in
    elim c.if-is_never.branch [
      | then-is_never w ↦
          let one : once (is_never c.args.bins.now c.args.at c.loop-before.before) ≡ 1 = ap once (sym c.is_never.ensures ∙ w.if-is_never.true) in
          let now = w.count-is in
          omega (arith, more, is, one, now)
      | else-is_never w ↦
          let none : once (is_never c.args.bins.now c.args.at c.loop-before.before) ≡ 0 = ap once (sym c.is_never.ensures ∙ w.if-is_never.false) in
          let now = w.count-is in
          omega (arith, more, is, none, now)
    ]

pub returns : goal.returns
unfolding never_before
returns c =
    let end : c.loop-before.before ≡ c.args.place = omega (arith, c.loop-before.auto.before-end, c.loop-before-test.false) in
    c.loop-before.invariant ∙ ap (λ (k : ℕ). count_by (is_never c.args.bins.now c.args.at) (range_with_len 0 k)) end
