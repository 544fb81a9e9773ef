use Rattle.std.proofs.Common.{◌≡◌, ◌∙◌, ap, sym, arith}
use Rattle.rtk_obs.specs.AnyCode.{text_of, number_of}
use Rattle.rtk_obs.proofs.AnyCodeLemmas.{number_below, at_number}
use Rattle.rtk_obs.proofs.any_code.AnyCode.from_text.Goals as goal

pub returns : goal.returns
returns c = λ code same.
    let end : c.loop-code.code-index ≡ 69 = omega (arith, c.loop-code.auto.code-index-end, c.loop-code-test.false) in
    c.loop-code.invariant (number_of code) (omega (arith, end, number_below code)) (same ∙ ap text_of (sym (at_number code)))
