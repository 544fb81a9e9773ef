use Rattle.std.proofs.Common.{◌≡◌, ◌<◌, Bool, cond, get_or, ap, ◌∙◌, arith}
use Rattle.std.proofs.lemmas.Bool.{lt-ltb}
use Rattle.std.proofs.lemmas.List.FromFn.{fill_by_all}
use Rattle.rtk_chart.specs.Grid.{no_marks}
use Rattle.rtk_chart.specs.Steps.Shown.{both_codes}
use Rattle.rtk_chart.proofs.tracking.add_codes.Goals as goal

pub returns : goal.returns
returns c =
    let end : c.loop-code.code ≡ 16 = omega (arith, c.loop-code.auto.code-end, c.loop-code-test.false) in
    fill_by_all (both_codes c.args.more.now c.args.codes.now) c.loop-code.codes 16 no_marks c.loop-code.invariant.size (λ k lt.
    let below : k < c.loop-code.code = omega (arith, lt, end) in
    c.loop-code.invariant.added k lt
    ∙ ap (λ (b : Bool). cond b (both_codes c.args.more.now c.args.codes.now k) (get_or c.args.codes.now k no_marks)) (lt-ltb k c.loop-code.code below))
