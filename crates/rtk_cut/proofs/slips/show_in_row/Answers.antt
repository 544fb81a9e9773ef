use Rattle.std.proofs.Common.{◌<◌, ℕ, ap, ◌∙◌, arith}
use Rattle.rtk_cut.specs.Steps.Pending.{codes_with_marks}
use Rattle.rtk_cut.proofs.MarkLemmas.{codes-all}
use Rattle.rtk_cut.proofs.slips.show_in_row.Goals as goal

pub returns-clause-shown : goal.returns-clause-shown
returns-clause-shown c =
    let i = c.loop-code.invariant in
    codes-all c.args.marks.now c.args.row.now c.loop-code.shown (λ k lt. let reached : k < c.loop-code.code = omega (arith, lt, i.width, c.loop-code-test.false) in i.shown k reached)
    ∙ ap (λ (n : ℕ). codes_with_marks c.args.marks.now n c.args.row.now) i.width
