use Rattle.std.proofs.Common.{◌∙◌, sym, subst}
use Rattle.rtk_message.specs.declared.system.System.{System}
use Rattle.rtk_obs.specs.Clocks.{IsClock}
use Rattle.rtk_convert.proofs.ClockLemmas.{clock-of-valid, dated-none, dated-some}
use Rattle.rtk_convert.proofs.frame_class.dated_message.Goals as goal

pub moment_of-epoch-requires : goal.moment_of-epoch-requires
moment_of-epoch-requires c =
    subst (λ (s : System). IsClock s c.in-Some.clock) (sym c.system_of.ensures) (clock-of-valid c.args.message.now c.in-Some.clock c.requires.valid (sym c.tow.ensures ∙ c.in-Some.is))

pub returns-in_default : goal.returns-in_default
returns-in_default c = dated-none c.args.setup.now c.args.message.now c.of_any.result (sym c.tow.ensures ∙ c.in_default.is) c.of_any.ensures

pub returns : goal.returns
returns c =
    dated-some c.args.setup.now c.args.message.now c.system_of.result c.in-Some.clock c.moment_of-epoch.result c.of_any-2.result
    c.system_of.ensures (sym c.tow.ensures ∙ c.in-Some.is) c.moment_of-epoch.ensures c.of_any-2.ensures
