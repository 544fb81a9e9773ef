use Rattle.std.proofs.Common.{Option, ap, ◌∙◌}
use Rattle.rtk_message.specs.declared.system.System.{System}
use Rattle.rtk_message.specs.declared.system.System.TheVariants.{Gps, Glonass, Galileo, Beidou, Qzss, Sbas}
use Rattle.rtk_setup.specs.Rates.{lacking_or}
use Rattle.rtk_setup.proofs.rates.first_without_rates.Goals as goal

pub returns : goal.returns
returns c =
    let after : System → Option System → Option System = λ s other. lacking_or c.args.kinds c.args.listed.now s other in
    let sbas = c.lacking_or-sbas.ensures ∙ ap (after Sbas) c.lacking_or-navic.ensures in
    let qzss = c.lacking_or-qzss.ensures ∙ ap (after Qzss) sbas in
    let beidou = c.lacking_or-beidou.ensures ∙ ap (after Beidou) qzss in
    let galileo = c.lacking_or-galileo.ensures ∙ ap (after Galileo) beidou in
    let glonass = c.lacking_or-glonass.ensures ∙ ap (after Glonass) galileo in
    c.lacking_or.ensures ∙ ap (after Gps) glonass
