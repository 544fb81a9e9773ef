use Rattle.std.proofs.Common.{◌∙◌, sym, ap, arith}
use Rattle.std.proofs.lemmas.Bool.Decides.{nat_tests}
use Rattle.rtk_obs.specs.AnyCode.{number_of}
use Rattle.rtk_rinex.proofs.mixed_head.are_in_order.Goals as goal

pub returns : goal.returns
returns c = (
  λ le. record { unlike = λ e. c.if-number.false (c.number.ensures.value ∙ ap number_of e ∙ sym c.number-2.ensures.value); systems = grind (arith, nat_tests) },
  λ h. let le = h.systems in grind (arith, nat_tests),
)
