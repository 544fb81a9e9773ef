use Rattle.std.proofs.Common.{◌∙◌, arith}
use Rattle.rtk_rinex.proofs.GlonassReadLemmas.{leap_is}
use Rattle.rtk_rinex.proofs.mixed_header_check.read_leap_seconds.Goals as goal

pub returns-then-seconds-gt99-clause-shown : goal.returns-then-seconds-gt99-clause-shown
returns-then-seconds-gt99-clause-shown c = λ n small line.
    let e = c.number_at-seconds.ensures.value ∙ leap_is c.args.text.now line.0 n small line.1 in absurd (omega (arith, e, small))

pub returns-clause-shown : goal.returns-clause-shown
returns-clause-shown c = λ n small line. c.number_at-seconds.ensures.value ∙ leap_is c.args.text.now line.0 n small line.1
