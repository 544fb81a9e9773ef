use Rattle.std.proofs.Common.{ap, ◌∙◌}
use Rattle.rtk_message.specs.declared.system.System.TheVariants.{Glonass, Galileo, Beidou, Qzss, Sbas, Navic}
use Rattle.rtk_setup.specs.Setup.{SetupView, with_kind}
use Rattle.rtk_plan.proofs.station_setup.with_kinds.Goals as goal

-- the kind of each system is set, one after another
pub returns : goal.returns
returns c =
    let k = c.args.kinds in
    c.with_kind-7.ensures ∙ ap (λ (s : SetupView). record s { kinds = with_kind s.kinds Navic k.navic }) (
    c.with_kind-6.ensures ∙ ap (λ (s : SetupView). record s { kinds = with_kind s.kinds Sbas k.sbas }) (
    c.with_kind-5.ensures ∙ ap (λ (s : SetupView). record s { kinds = with_kind s.kinds Qzss k.qzss }) (
    c.with_kind-4.ensures ∙ ap (λ (s : SetupView). record s { kinds = with_kind s.kinds Beidou k.beidou }) (
    c.with_kind-3.ensures ∙ ap (λ (s : SetupView). record s { kinds = with_kind s.kinds Galileo k.galileo }) (
    c.with_kind-2.ensures ∙ ap (λ (s : SetupView). record s { kinds = with_kind s.kinds Glonass k.glonass }) c.with_kind.ensures)))))
