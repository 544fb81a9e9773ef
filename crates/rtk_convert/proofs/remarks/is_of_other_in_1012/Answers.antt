use Rattle.std.proofs.Common.{ap, sym, ◌∙◌, Bool}
use Rattle.std.specs.Prelude.{not}
use Rattle.rtk_convert.proofs.SlotsLemmas.{other-some-1012, other-none-1012}
use Rattle.rtk_convert.proofs.remarks.is_of_other_in_1012.Goals as goal

pub returns-in-Some : goal.returns-in-Some
returns-in-Some c =
    ap (λ (b : Bool). not b) c.agrees_in_1012.ensures
    ∙ other-some-1012 c.args.channels.now c.args.satellite.now c.in-Some.channel (sym c.channel.ensures ∙ c.in-Some.is)

pub returns-in-None : goal.returns-in-None
returns-in-None c = other-none-1012 c.args.channels.now c.args.satellite.now (sym c.channel.ensures ∙ c.in-None.is)
