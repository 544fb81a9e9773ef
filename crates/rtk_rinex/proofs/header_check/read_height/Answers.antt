use Rattle.std.proofs.Common.{◌∙◌, arith, ap, Some}
use Rattle.rtk_rinex.proofs.HeaderShownLemmas.{height_is}
use Rattle.rtk_rinex.proofs.header_check.read_height.Goals as goal

pub returns-then-height-gt65535 : goal.returns-then-height-gt65535
returns-then-height-gt65535 c = λ h small line.
    let e = c.number_at-height.ensures.value ∙ height_is c.args.text.now line.0 h small line.1 in absurd (omega (arith, e, small))

pub returns : goal.returns
returns c = λ h small line. ap Some (c.number_at-height.ensures.value ∙ height_is c.args.text.now line.0 h small line.1)
