use Rattle.std.proofs.Common.{◌≡◌, ◌<◌, ◌≤◌, ◌+◌, ◌&&◌, ℕ, sym, ap, ◌∙◌, arith}
use Rattle.std.specs.List.{list_any, range_with_len}
use Rattle.rtk_chart.specs.Grid.{marks_at}
use Rattle.rtk_chart.proofs.ListLemmas.{any-in-range, none-more}
use Rattle.rtk_chart.proofs.signs.is_missing.Goals as goal

pub returns-then-is_missing_at : goal.returns-then-is_missing_at
returns-then-is_missing_at c = λ has marked.
    let from : 0 ≤ c.loop-code.code = omega arith in
    let to : c.loop-code.code < 0 + 16 = omega (arith, c.loop-code-test.true) in
    sym (any-in-range (λ code. has code && (marks_at code c.args.tracking.now).missing) 0 16 c.loop-code.code from to (sym (c.is_missing_at.ensures has marked) ∙ c.if-is_missing_at.true))

pub loop-code-preserved : goal.loop-code-preserved
loop-code-preserved c = λ has marked.
    let at : c.loop-code.code ≡ 0 + c.loop-code.code = omega arith in
    none-more (λ code. has code && (marks_at code c.args.tracking.now).missing) 0 c.loop-code.code c.loop-code.code at (c.loop-code.invariant has marked)
    (sym (c.is_missing_at.ensures has marked) ∙ c.if-is_missing_at.false)

pub returns : goal.returns
returns c = λ has marked.
    let end : c.loop-code.code ≡ 16 = omega (arith, c.loop-code.auto.code-end, c.loop-code-test.false) in
    sym (ap (λ (n : ℕ). list_any (λ code. has code && (marks_at code c.args.tracking.now).missing) (range_with_len 0 n)) (sym end) ∙ c.loop-code.invariant has marked)
