use Rattle.std.proofs.Common.{◌∙◌, Bool, sym, ap}
use Rattle.std.specs.Prelude.{◌&&◌}
use Rattle.rtk_collect.specs.Arrival.{message_of}
use Rattle.rtk_convert.specs.Report.{holds_sbas}
use Rattle.rtk_convert.proofs.BringsLemmas.{both-true, wide-none}
use Rattle.rtk_convert.proofs.conversion.brings_sbas.Goals as goal

pub returns-then-not-takes_sbas : goal.returns-then-not-takes_sbas
returns-then-not-takes_sbas c =
    ap (λ (b : Bool). b && holds_sbas (message_of c.args.dated.now)) (sym (sym c.takes_sbas.ensures ∙ c.if-not-takes_sbas.true))

pub returns-in-Some : goal.returns-in-Some
returns-in-Some c =
    c.holds_sbas.ensures ∙ ap holds_sbas c.in-Some.ensures.value
    ∙ both-true _ (holds_sbas (message_of c.args.dated.now)) (sym c.takes_sbas.ensures ∙ c.if-not-takes_sbas.false)

pub returns-in-None : goal.returns-in-None
returns-in-None c = wide-none c.args.setup.now (message_of c.args.dated.now) c.in-None.ensures.none
